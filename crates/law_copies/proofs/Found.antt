-- The order that an account's token finds.
use Rattle.std.proofs.Common.{◌≡◌, ℕ, zero, suc, ◌+◌, ◌<◌, Bool, true, false, cond, List, [], ◌∷◌, length, Some, None, unwrap_or, sym, refl, ◌∙◌, arith}
use Rattle.std.specs.List.{remove, slice_get, position_from, AllByRecursion}
use Rattle.std.proofs.ByRecursion.{All-weaker}
use Rattle.std.proofs.lemmas.Bool.{and_parts, eqb-true}
use Rattle.store.specs.Records.{found, named}
use Rattle.store.specs.declared.record.Record.{Record}
use Rattle.law_copies.proofs.Keys.{AllApart, Apart}

-- no order has the account's token
abbrev pub Unnamed : ℕ → ℕ → List Record → Type 0
Unnamed a t xs = AllByRecursion (λ x. named a t x ≡ false) xs

pub named_parts : (a t : ℕ) (x : Record) → named a t x ≡ true → (x.account ≡ a) × (x.token ≡ t)
named_parts a t x e = (eqb-true _ _ (and_parts _ _ e).0, eqb-true _ _ (and_parts _ _ e).1)

-- what differs from an order of that name has another
other_named : (a t : ℕ) (x y : Record) → Apart x y → named a t x ≡ true → named a t y ≡ false
other_named a t x y n e = by (named a t y) refl
  where
    by : (b : Bool) → named a t y ≡ b → named a t y ≡ false
    by false f = f
    by true f =
        let p = named_parts a t x e in
        let q = named_parts a t y f in
        absurd (n (p.0 ∙ sym q.0) (p.1 ∙ sym q.1))

-- the order at place j is the account's, and the only one of that token
pub record Finds (a t : ℕ) (xs : List Record) (j : ℕ) : Type 0 where
  pub within : j < length xs
  pub named : (d : Record) → named a t (unwrap_or (slice_get xs j) d) ≡ true
  pub only : AllApart xs → Unnamed a t (remove xs j)

module _ (a t : ℕ) where
  found-place : (i : ℕ) (xs : List Record) (k : ℕ) → position_from (named a t) i xs ≡ Some k → (j : ℕ) × (k ≡ i + j) × Finds a t xs j
  found-place i [] k e = let z : ◌≡◌ {A = ℕ} 0 1 = cc in absurd (omega arith)
  found-place i (x ∷ xs) k e = by (named a t x) refl e (found-place (i + 1) xs k)
    where
      by :
          (b : Bool) → named a t x ≡ b → cond b (Some i) (position_from (named a t) (i + 1) xs) ≡ Some k →
          (position_from (named a t) (i + 1) xs ≡ Some k → (j : ℕ) × (k ≡ i + 1 + j) × Finds a t xs j) →
          (j : ℕ) × (k ≡ i + j) × Finds a t (x ∷ xs) j
      by true f g ih =
          let s : i ≡ k = cc g in
          (0, omega arith, record { within = omega arith; named = λ d. f; only = λ p. All-weaker (Apart x) _ (λ y n. other_named a t x y n f) xs p.0 })
      by false f g ih =
          let (j, s, r) = ih g in
          (suc j, omega arith, record { within = omega (arith, r.within); named = λ d. r.named d; only = λ p. (f, r.only p.1) })

  pub found_finds : (xs : List Record) (k : ℕ) → found a t xs ≡ Some k → Finds a t xs k
  found_finds xs k e =
      let (j, s, r) = found-place 0 xs k e in
      let m : j ≡ k = omega arith in
      rw m at r

  -- nothing of that name, nothing found
  pub found_none : (i : ℕ) (xs : List Record) → Unnamed a t xs → position_from (named a t) i xs ≡ None
  found_none i [] h = refl
  found_none i (x ∷ xs) h = rw h.0 (found_none (i + 1) xs h.1)

-- what holds of each order holds of the one at a place
pub all_at : (P : Record → Type 0) (xs : List Record) (k : ℕ) (d : Record) → k < length xs → AllByRecursion P xs → P (unwrap_or (slice_get xs k) d)
all_at P [] k d l h = absurd (omega arith)
all_at P (x ∷ xs) zero d l h = h.0
all_at P (x ∷ xs) (suc k) d l h = all_at P xs k d (omega arith) h.1
