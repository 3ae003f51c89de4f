-- The spaces at the end of a text, one by one.
use Rattle.std.proofs.Common.{◌≡◌, ℕ, suc, ◌+◌, ◌-◌, ◌<◌, ◌≤◌, true, false, ◌&&◌, eqb, ◌≢◌, List, [], ◌∷◌, ◌++◌, length, get_or, take, replicate, sym, refl, ap, ◌∙◌, arith}
use native.Mathlib.Nat.{sub-zero}
use Rattle.std.specs.Int.Digits.{AllBelowBase}
use Rattle.std.proofs.lemmas.List.{take_more, take_all}
use Rattle.std.proofs.lemmas.Bool.{ne_eqb, eqb-true, and_right, and_parts, cond_both}
use Rattle.readable.specs.Spelling.{spaces, unpadded}

spaces-more : (xs : List ℕ) → spaces (xs ++ 32 ∷ []) ≡ spaces xs
spaces-more [] = refl
spaces-more (x ∷ xs) = ap (λ s. eqb x 32 && s) (spaces-more xs)

spaces_end : (xs : List ℕ) (b : ℕ) → b ≢ 32 → spaces (xs ++ b ∷ []) ≡ false
spaces_end [] b ne = simp (ne_eqb b 32 ne)
spaces_end (x ∷ xs) b ne = and_right (eqb x 32) (spaces (xs ++ b ∷ [])) (spaces_end xs b ne)

unpadded-more : (xs : List ℕ) → unpadded (xs ++ 32 ∷ []) ≡ unpadded xs
unpadded-more [] = refl
unpadded-more (x ∷ xs) = simp (spaces-more xs, unpadded-more xs)

unpadded_end : (xs : List ℕ) (b : ℕ) → b ≢ 32 → unpadded (xs ++ b ∷ []) ≡ xs ++ b ∷ []
unpadded_end [] b ne = simp (ne_eqb b 32 ne)
unpadded_end (x ∷ xs) b ne = simp (spaces_end (x ∷ xs) b ne, unpadded_end xs b ne)

last : (xs : List ℕ) → 0 < length xs → xs ≡ take (length xs - 1) xs ++ get_or xs (length xs - 1) 0 ∷ []
last xs some =
    sym (take_all (length xs) xs (omega arith))
    ∙ ap (λ k. take k xs) {x = length xs} {y = length xs - 1 + 1} (omega arith)
    ∙ take_more xs (length xs - 1) 0 (omega arith)

-- a text that ends in a space, and one that does not
pub front_space : (xs : List ℕ) → 0 < length xs → get_or xs (length xs - 1) 0 ≡ 32
    → unpadded (take (length xs - 1) xs) ≡ unpadded xs
front_space xs some e =
    sym (unpadded-more (take (length xs - 1) xs))
    ∙ ap (λ b. unpadded (take (length xs - 1) xs ++ b ∷ [])) (sym e)
    ∙ ap unpadded (sym (last xs some))

pub front_solid : (xs : List ℕ) → 0 < length xs → get_or xs (length xs - 1) 0 ≢ 32 → xs ≡ unpadded xs
front_solid xs some ne =
    last xs some
    ∙ sym (unpadded_end (take (length xs - 1) xs) (get_or xs (length xs - 1) 0) ne)
    ∙ ap unpadded (sym (last xs some))

pub front_none : (xs : List ℕ) (n : ℕ) → n ≤ 0 → take (n - 0) xs ≡ unpadded (take n xs)
front_none xs n none = let e : n ≡ 0 = omega arith in simp e

-- the spaces are all that is left out
spaces_are : (xs : List ℕ) → spaces xs ≡ true → xs ≡ replicate (length xs) 32
spaces_are [] e = refl
spaces_are (x ∷ xs) e =
    let h = and_parts (eqb x 32) (spaces xs) e in λ i. eqb-true x 32 h.0 i ∷ spaces_are xs h.1 i

pub padded : (xs : List ℕ) → xs ≡ unpadded xs ++ replicate (length xs - length (unpadded xs)) 32
padded [] = refl
padded (x ∷ xs) =
    cond_both (spaces (x ∷ xs)) [] (x ∷ unpadded xs)
    (λ t. x ∷ xs ≡ t ++ replicate (length (x ∷ xs) - length t) 32)
    (λ e. spaces_are (x ∷ xs) e ∙ ap (λ n. replicate n 32) (sym (sub-zero (length (x ∷ xs)))))
    (λ e. ap (λ t. x ∷ t) (
    padded xs
    ∙ ap (λ n. unpadded xs ++ replicate n 32) {x = length xs - length (unpadded xs)}
    {y = suc (length xs) - suc (length (unpadded xs))} (omega arith)
    ))

pub under_unpadded : (xs : List ℕ) → AllBelowBase 256 xs → AllBelowBase 256 (unpadded xs)
under_unpadded [] u = tt
under_unpadded (x ∷ xs) u =
    cond_both (spaces (x ∷ xs)) [] (x ∷ unpadded xs) (AllBelowBase 256) (λ e. tt) (λ e. (u.0, under_unpadded xs u.1))
