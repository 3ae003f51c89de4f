-- Texts that are shown alike are alike.
use Rattle.std.proofs.Common.{◌≡◌, ℕ, ◌-◌, ◌<◌, Bool, true, false, List, [], ◌∷◌, ◌++◌, length, replicate, codes, sym, refl, ap, ◌∙◌, arith}
use Rattle.std.specs.Str.Parse.{digits_value}
use Rattle.std.specs.Int.Digits.{AllBelowBase}
use Rattle.std.proofs.lemmas.Bool.{cond_both}
use Rattle.std.proofs.lemmas.Bool.Decides.{nat_tests}
use Rattle.readable.specs.Hex.{hex_byte}
use Rattle.readable.specs.Spelling.{printable, spelt, spelling, unpadded, TextTells}
use Rattle.readable.proofs.HexRead.{byte_value}
use Rattle.readable.proofs.Padding.{padded, under_unpadded}

-- the first byte of two spellings that are alike
same_first : (a b : Bool) (x y : ℕ) (xs ys : List ℕ) → printable x ≡ a → printable y ≡ b → x < 256 → y < 256
    → spelt x ++ xs ≡ spelt y ++ ys → (x ≡ y) × (xs ≡ ys)
same_first true true x y xs ys p q u v e = let h = simp (p, q) at e in (cc, cc)
same_first true false x y xs ys p q u v e =
    let h = simp (p, q) at e in let no' : x ≡ 92 = cc in absurd (grind (arith, nat_tests))
same_first false true x y xs ys p q u v e =
    let h = simp (p, q) at e in let no' : y ≡ 92 = cc in absurd (grind (arith, nat_tests))
same_first false false x y xs ys p q u v e =
    let h = simp (p, q) at e in
    let digits : hex_byte x ≡ hex_byte y = cc in
    (sym (byte_value x u) ∙ ap (digits_value 16) digits ∙ byte_value y v, cc)

-- a byte is shown by something
some_spelt : (x : ℕ) (xs : List ℕ) → [] ≡ spelt x ++ xs → ⊥
some_spelt x xs =
    cond_both (printable x) (x ∷ []) (codes "\\x" ++ hex_byte x) (λ t. [] ≡ t ++ xs → ⊥)
    (λ p e. let z : ◌≡◌ {A = ℕ} 0 1 = cc in omega arith)
    (λ p e. let z : ◌≡◌ {A = ℕ} 0 1 = cc in omega arith)

text_same : (xs ys : List ℕ) → AllBelowBase 256 xs → AllBelowBase 256 ys → spelling xs ≡ spelling ys → xs ≡ ys
text_same [] [] u v e = refl
text_same [] (y ∷ ys) u v e = absurd (some_spelt y (spelling ys) e)
text_same (x ∷ xs) [] u v e = absurd (some_spelt x (spelling xs) (sym e))
text_same (x ∷ xs) (y ∷ ys) u v e =
    let h = same_first _ _ x y (spelling xs) (spelling ys) refl refl u.0 v.0 e in
    λ i. h.0 i ∷ text_same xs ys u.1 v.1 h.1 i

pub text_tells : TextTells
text_tells xs ys u v same e =
    let h = text_same (unpadded xs) (unpadded ys) (under_unpadded xs u) (under_unpadded ys v) e in
    padded xs
    ∙ (λ i. h i ++ replicate (same i - length (h i)) 32)
    ∙ sym (padded ys)
