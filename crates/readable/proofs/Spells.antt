-- What is written of bytes, one by one.
use Rattle.std.proofs.Common.{◌≡◌, ℕ, ◌+◌, ◌<◌, true, length, get_or, List, [], ◌++◌, take, sym, ap, ◌∙◌, arith}
use lib.Utf8.{encode}
use Rattle.std.specs.List.{flat_map}
use Rattle.std.proofs.lemmas.List.{take_more, flat_map_more}
use Rattle.std.proofs.lemmas.Str.{encode_ascii}
use Rattle.std.proofs.lemmas.Bool.Decides.{nat_tests}
use Rattle.readable.specs.Spelling.{printable, spelt}

-- a printable byte is a character, which is written as it is
pub as_char : (b : ℕ) → printable b ≡ true → encode b ≡ spelt b
as_char b p = let h : b < 128 = grind (arith, nat_tests) in simp (p, encode_ascii b h)

-- one byte more
pub each_more : (f : ℕ → List ℕ) (bs : List ℕ) (i : ℕ) → i < length bs
    → flat_map f (take i bs) ++ f (get_or bs i 0) ≡ flat_map f (take (i + 1) bs)
each_more f bs i in' = flat_map_more f [] (take i bs) (get_or bs i 0) ∙ ap (flat_map f) (sym (take_more bs i 0 in'))
