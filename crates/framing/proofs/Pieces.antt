-- A unit that takes in no more than it lacks never has more bytes than its front says.
use Rattle.std.proofs.Common.{◌≡◌, ℕ, ◌+◌, ◌<◌, ◌≤◌, List, [], ◌∷◌, ◌++◌, length, Ok, Result, sym, refl, ap, ◌∙◌, subst, append-nil, arith, length-append}
use Rattle.framing.specs.Unit.{Added}

abbrev Grows : (List ℕ → ℕ) → Type 0
Grows size = (front more : List ℕ) → length front + length more ≤ size front → size front ≤ size (front ++ more)

joined : (size : List ℕ → ℕ) → Grows size → (before more : List ℕ) → length before + length more ≤ size before → length (before ++ more) ≤ size (before ++ more)
joined size grows before more h =
    let g = grows before more h in omega (arith, length-append before more)

pub within : {E : Type 0} (size : List ℕ → ℕ) → Grows size → (most n : ℕ) (before after : List ℕ) (r : Result ℕ E)
    → r ≡ Ok n → Added most before after r → length before + most ≤ size before → length after ≤ size after
within {E = E} size grows most n before after r is added h =
    let a : Added {E = E} most before after (Ok n) = subst (λ (x : Result ℕ E). Added most before after x) is added in
    subst (λ (x : List ℕ). length x ≤ size x) (sym a.1) (joined size grows before a.0 (omega (arith, a.2, a.3)))

nothing : (xs : List ℕ) → length xs ≡ 0 → xs ≡ []
nothing [] h = refl
nothing (x ∷ xs) h = absurd (omega arith)

pub short : {E : Type 0} (size : List ℕ → ℕ) (most : ℕ) (before after : List ℕ) (r : Result ℕ E)
    → r ≡ Ok 0 → Added most before after r → length before < size before → length after < size after
short {E = E} size most before after r is added h =
    let a : Added {E = E} most before after (Ok 0) = subst (λ (x : Result ℕ E). Added most before after x) is added in
    subst (λ (x : List ℕ). length x < size x) (sym (a.1 ∙ ap (λ (x : List ℕ). before ++ x) (nothing a.0 a.2) ∙ append-nil before)) h
