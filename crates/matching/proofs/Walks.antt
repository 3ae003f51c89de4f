-- One execution at a time, the walk comes to its end.
use Rattle.std.proofs.Common.{◌≡◌, ℕ, zero, suc, ◌+◌, ◌-◌, ◌<◌, ◌≤◌, min, Bool, true, false, cond, eqb, leb, ◌⊎◌, Some, None, Option, sym, refl, ap, ◌∙◌, inl, inr, arith}
use Rattle.std.proofs.lemmas.List.Edits.{length-remove}
use Rattle.std.proofs.lemmas.List.{length-set}
use Rattle.std.proofs.lemmas.Bool.{cases_Bool, leb-false, ne_eqb}
use Rattle.store.proofs.Sides.{side_best_within}
use Rattle.store.specs.Best.{best_place, opposite}
use Rattle.store.specs.declared.record.Record.{Record}
use Rattle.market.specs.Changes.{record_at, lessened}
use Rattle.market.specs.Host.{Host, live}
use Rattle.matching.specs.Matching.{meets, dealt, executed, if_met, best_met, walked, walk, matched}

same_either : {A : Type 0} (b : Bool) (x : A) → cond b x x ≡ x
same_either true x = refl
same_either false x = refl

-- the best order that is met is an order of the list
met_found : (h : Host) (n : Record) (r : Option ℕ) (k : ℕ) → if_met h n r ≡ Some k → r ≡ Some k
met_found h n None k e = e
met_found h n (Some j) k e =
    elim (cases_Bool (meets n.side n.rate (record_at j h.orders).rate)) [
      | inl m ↦ (rw m at e)
      | inr m ↦ let none : None ≡ Some k = (rw m at e) in let z : ◌≡◌ {A = ℕ} 0 1 = cc in absurd (omega arith)
    ]

pub met_within : (h : Host) (n : Record) (k : ℕ) → best_met h n ≡ Some k → k < live h
met_within h n k e =
    side_best_within n.book (opposite n.side) h.orders k
    (met_found h n (best_place n.book (opposite n.side) h.orders) k e)

module _ (t : ℕ) where
  pub walk-filled : (fuel : ℕ) (h : Host) (n : Record) → n.left ≡ 0 → walk fuel h t n ≡ walked h n
  unfolding walk
  walk-filled zero h n e = refl
  walk-filled (suc f) h n e = rw e

  pub walk_unmet : (fuel : ℕ) (h : Host) (n : Record) → best_met h n ≡ None → walk fuel h t n ≡ walked h n
  unfolding walk
  walk_unmet zero h n e = refl
  walk_unmet (suc f) h n e = rw e (same_either (eqb n.left 0) (walked h n))

  -- the host and the newcomer after an execution against the order at k
  abbrev pub next : Host → Record → ℕ → Host
  next h n k = executed h t n k (record_at k h.orders)

  abbrev pub rest : Host → Record → ℕ → Record
  rest h n k = lessened (dealt n (record_at k h.orders)) n

  -- the order is gone, or nothing is left of the newcomer
  pub gone_or_filled : (h : Host) (n : Record) (k : ℕ) → k < live h → (live (next h n k) + 1 ≡ live h) ⊎ (((rest h n k).left ≡ 0) × (live (next h n k) ≡ live h))
  gone_or_filled h n k lt =
      let x = record_at k h.orders in
      elim (cases_Bool (leb x.left (dealt n x))) [
        | inl le ↦ inl (rw le (length-remove h.orders k lt))
        | inr gt ↦ inr (let above = leb-false x.left (dealt n x) gt in omega arith, rw gt (length-set h.orders k _))
      ]

  walk_step : (f : ℕ) (h : Host) (n : Record) (k : ℕ) → 0 < n.left → best_met h n ≡ Some k → walk (suc f) h t n ≡ walk f (next h n k) t (rest h n k)
  unfolding walk
  walk_step f h n k some e = let more : eqb n.left 0 ≡ false = ne_eqb n.left 0 (λ z. omega arith) in rw (more, e)

  pub walk_turn : (h : Host) (n : Record) (k : ℕ) → 0 < n.left → best_met h n ≡ Some k → matched (next h n k) t (rest h n k) ≡ matched h t n
  walk_turn h n k some e =
      let lt = met_within h n k e in
      let fuel : live h ≡ suc (live h - 1) = omega arith in
      let step = ap (λ f. walk f h t n) fuel ∙ walk_step (live h - 1) h n k some e in
      elim (gone_or_filled h n k lt) [
        | inl gone ↦ let less : live (next h n k) ≡ live h - 1 = omega arith in ap (λ f. walk f (next h n k) t (rest h n k)) less ∙ sym step
        | inr filled ↦
            walk-filled (live (next h n k)) (next h n k) (rest h n k) filled.0
            ∙ sym (step ∙ walk-filled (live h - 1) (next h n k) (rest h n k) filled.0)
      ]

  -- each execution takes away an order or the rest of the newcomer
  pub walk_falls : (h : Host) (n : Record) (k : ℕ) → 0 < n.left → best_met h n ≡ Some k → live (next h n k) + min (rest h n k).left 1 < live h + min n.left 1
  walk_falls h n k some e =
      elim (gone_or_filled h n k (met_within h n k e)) [
        | inl gone ↦ omega arith
        | inr filled ↦ let none = filled.0 in let same = filled.1 in omega arith
      ]

  -- while something is left, an order went for each match number
  pub walk_numbers : (h : Host) (n : Record) (k m : ℕ) → best_met h n ≡ Some k → h.next_match + live h ≤ m → 0 < (rest h n k).left → (next h n k).next_match + live (next h n k) ≤ m
  walk_numbers h n k m e le some =
      elim (gone_or_filled h n k (met_within h n k e)) [
        | inl gone ↦ omega arith
        | inr filled ↦ let none = filled.0 in absurd (omega arith)
      ]
