-- Hexadecimal digits, read back.
use Rattle.std.proofs.Common.{◌≡◌, ℕ, ◌/◌, ◌%◌, ◌<◌, true, not, ◌&&◌, eqb, leb, List, [], ◌∷◌, ◌++◌, take, drop, codes, filter, sym, refl, ap, ◌∙◌, arith}
use Rattle.std.specs.Str.Parse.{digits_value}
use Rattle.std.specs.Char.{digit_value}
use Rattle.std.specs.Int.Digits.{AllBelowBase}
use Rattle.std.specs.List.{flat_map}
use Rattle.std.proofs.lemmas.List.FromFn.{get_or-range_with_len}
use Rattle.std.proofs.lemmas.List.Elements.{filter-append}
use Rattle.std.proofs.ByRecursion.{All-get_or, kept_by_passes}
use Rattle.std.proofs.lemmas.List.{get_or-map, take-append-drop}
use Rattle.std.proofs.lemmas.Bool.Decides.{nat_tests}
use Rattle.readable.specs.Hex.{hex_digit, hex_byte, paired}
use Rattle.readable.specs.PacketLines.{UnknownNames}
use Rattle.readable.specs.Spelling.{hex_bytes}
use Rattle.std.proofs.lemmas.List.Concat.{flat_map-append}

below : (n : ℕ) → n % 16 < 16
below n = omega arith

-- each digit is a printable character and no space
pub digit_seen : (n : ℕ) → (leb 33 (hex_digit n) && leb (hex_digit n) 126) ≡ true
digit_seen n =
    All-get_or (λ c. (leb 33 c && leb c 126) ≡ true) (codes "0123456789ABCDEF") (n % 16) 0 (below n)
    (kept_by_passes (λ c. leb 33 c && leb c 126) (codes "0123456789ABCDEF"))

pub digit_value_lem : (n : ℕ) → digit_value (hex_digit n) ≡ n % 16
digit_value_lem n =
    sym (get_or-map digit_value (codes "0123456789ABCDEF") (n % 16) 0 0 (below n))
    ∙ get_or-range_with_len 0 16 (n % 16) 0 (below n)
    ∙ omega arith

pub byte_value : (b : ℕ) → b < 256 → digits_value 16 (hex_byte b) ≡ b
byte_value b h = omega (arith, digit_value_lem (b / 16), digit_value_lem b)

paired_bytes : (bs : List ℕ) → AllBelowBase 256 bs → paired (flat_map hex_byte bs) ≡ bs
paired_bytes [] u = refl
paired_bytes (b ∷ bs) u = λ i. byte_value b u.0 i ∷ paired_bytes bs u.1 i

solid : (n : ℕ) → not (eqb (hex_digit n) 32) ≡ true
solid n = let h = digit_seen n in grind (arith, nat_tests)

kept_byte : (b : ℕ) → filter (λ c. not (eqb c 32)) (hex_byte b) ≡ hex_byte b
kept_byte b = simp (solid (b / 16), solid b)

kept_all : (f : ℕ → List ℕ) → ((b : ℕ) → filter (λ c. not (eqb c 32)) (f b) ≡ hex_byte b) → (bs : List ℕ)
    → filter (λ c. not (eqb c 32)) (flat_map f bs) ≡ flat_map hex_byte bs
kept_all f one [] = refl
kept_all f one (b ∷ bs) =
    filter-append (λ c. not (eqb c 32)) (f b) (flat_map f bs) ∙ (λ i. one b i ++ kept_all f one bs i)

pub unknown_names : UnknownNames
unknown_names p u =
    ap paired (
    filter-append (λ c. not (eqb c 32)) (hex_bytes [] (take 2 p)) (hex_bytes (codes " ") (drop 2 p))
    ∙ (λ i. kept_all hex_byte kept_byte (take 2 p) i ++ kept_all (λ b. codes " " ++ hex_byte b) kept_byte (drop 2 p) i)
    ∙ sym (flat_map-append hex_byte (take 2 p) (drop 2 p))
    ∙ ap (flat_map hex_byte) (take-append-drop 2 p)
    )
    ∙ paired_bytes p u
