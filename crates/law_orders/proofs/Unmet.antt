-- What rests of a newcomer, and what is amended in its book, meets no order.
use Rattle.std.proofs.Common.{◌≡◌, ℕ, zero, suc, ◌+◌, ◌≤◌, Bool, true, false, cond, eqb, ◌⊎◌, List, [], ◌∷◌, length, ℤ, Some, None, Option, refl, ap, inl, inr, arith}
use Rattle.std.specs.List.{slice_get, AllByRecursion}
use Rattle.std.proofs.lemmas.Int.{ints}
use Rattle.std.proofs.lemmas.Bool.{and_left, and_right, cases_Bool, eqb-true}
use Rattle.fields.specs.declared.letters.Side.{Side}
use Rattle.fields.specs.declared.letters.Side.TheVariants.{Buy, Sell}
use Rattle.store.specs.Best.{IsBest, best_place, listed, opposite, ranks_of}
use Rattle.store.specs.declared.record.Record.{Record}
use Rattle.store.proofs.Sides.{side_best}
use Rattle.market.specs.Host.{Host, live}
use Rattle.matching.specs.Matching.{Walked, best_met, if_met, is_met, meeting_quantity, meets, walk, walked}
use Rattle.matching.proofs.Walks.{gone_or_filled, met_within, next, rest, walk-filled}
use Rattle.law_copies.proofs.Steps.{untested}
use Rattle.law_orders.specs.Statements.{AmendsUnmet, RestsUnmet, Unmet}

all_from_nth : {X : Type 0} (P : X → Type 0) (xs : List X) → ((k : ℕ) (x : X) → slice_get xs k ≡ Some x → P x) → AllByRecursion P xs
all_from_nth P [] f = tt
all_from_nth P (x ∷ xs) f = (f 0 x refl, all_from_nth P xs (λ k y e. f (suc k) y e))

-- ---- if the best opposite order is not met, none is

-- a yield that is behind one that does not meet does not meet either
behind : (side : Side) (own best other : ℤ) → meets side own best ≡ false → (ranks_of (opposite side) best other ≡ true) ⊎ (other ≡ best) → meets side own other ≡ false
behind Buy own best other e (inl r) = grind (arith, ints)
behind Buy own best other e (inr r) = rw r e
behind Sell own best other e (inl r) = grind (arith, ints)
behind Sell own best other e (inr r) = rw r e

module _ (h : Host) (n : Record) where
  abbrev Best : Option ℕ → Type 0
  Best r = IsBest (ranks_of (opposite n.side)) n.book (opposite n.side) h.orders r

  unmet-listed :
      (r : Option ℕ) → Best r → if_met h n r ≡ None → (k : ℕ) (x : Record) → slice_get h.orders k ≡ Some x →
      listed n.book (opposite n.side) x ≡ true → meets n.side n.rate x.rate ≡ false
  unmet-listed None best e k x at l = absurd (best k x at l)
  unmet-listed (Some b) best e k x at l =
      let (y, here, own, all) = best in
      let unmet : meets n.side n.rate y.rate ≡ false = (untested _ b None (rw here at e)).0 in
      behind n.side n.rate y.rate x.rate unmet (elim (all k x at l) [ inl r ↦ inl r | inr r ↦ inr r.0 ])

  -- where the best order is not met, the newcomer meets none
  pub unmet_none : best_met h n ≡ None → Unmet n h.orders
  unmet_none e = all_from_nth _ h.orders (λ k x at.
      elim (cases_Bool (listed n.book (opposite n.side) x)) [
        | inl l ↦ and_right _ _ (unmet-listed (best_place n.book (opposite n.side) h.orders) (side_best n.book (opposite n.side) h.orders) e k x at l)
        | inr l ↦ and_left _ _ l
      ])

-- ---- after all executions

abbrev Rests : Walked → Type 0
Rests w = 1 ≤ w.newcomer.left → Unmet w.newcomer w.host.orders

none_live : (n : Record) (xs : List Record) → length xs ≤ 0 → Unmet n xs
none_live n [] l = tt
none_live n (x ∷ xs) l = absurd (omega arith)

module _ (t : ℕ) where
  -- each execution takes away an order or the rest of the newcomer, so as many as are live suffice
  walk-rests : (fuel : ℕ) (h : Host) (n : Record) → live h ≤ fuel → Rests (walk fuel h t n)
  unfolding walk
  walk-rests zero h n l = λ some. none_live n h.orders l
  walk-rests (suc f) h n l =
      by (eqb n.left 0) (best_met h n) refl refl
      (λ k e. elim (gone_or_filled t h n k (met_within h n k e)) [
        | inl gone ↦ walk-rests f (next t h n k) (rest t h n k) (omega arith)
        | inr filled ↦ λ some. let none = ap (λ (w : Walked). w.newcomer.left) (walk-filled t f (next t h n k) (rest t h n k) filled.0) in absurd (omega (arith, filled.0))
      ])
    where
      by :
          (b : Bool) (o : Option ℕ) → eqb n.left 0 ≡ b → best_met h n ≡ o →
          ((k : ℕ) → best_met h n ≡ Some k → Rests (walk f (next t h n k) t (rest t h n k))) →
          Rests (cond b (walked h n) (elim o as (λ _. Walked) [ None ↦ walked h n | Some k ↦ walk f (next t h n k) t (rest t h n k) ]))
      by true o e m ih some = let none = eqb-true _ _ e in absurd (omega arith)
      by false None e m ih some = unmet_none h n m
      by false (Some k) e m ih some = ih k m some

pub rests_unmet : RestsUnmet
rests_unmet h t n = walk-rests t (live h) h n (omega arith)

-- ---- where the quantity that is met is 0

-- an order of which something is left is not met
unmet_first : (met : Bool) (left more : ℕ) → 1 ≤ left → cond met (left + more) more ≡ 0 → (met ≡ false) × (more ≡ 0)
unmet_first true left more l e = absurd (omega arith)
unmet_first false left more l e = (refl, e)

pub amends_unmet : AmendsUnmet
amends_unmet n [] l e = tt
amends_unmet n (x ∷ xs) l e = let p = unmet_first (is_met n x) x.left (meeting_quantity n xs) l.0 e in (p.0, amends_unmet n xs l.1 p.1)

-- what is unmet has nothing to meet
pub unmet_quantity : (n : Record) (xs : List Record) → Unmet n xs → meeting_quantity n xs ≡ 0
unmet_quantity n [] u = refl
unmet_quantity n (x ∷ xs) u = rw u.0 (unmet_quantity n xs u.1)
