-- What is met in a list of orders: with one order more at its end, and from the order at a place on.
use Rattle.std.proofs.Common.{◌≡◌, ℕ, ◌+◌, ◌≤◌, Bool, true, false, cond, List, [], ◌∷◌, ◌++◌, length, drop, Some, refl, ap, ◌∙◌, arith}
use Rattle.std.proofs.lemmas.List.{drop_all}
use Rattle.std.specs.List.{slice_get}
use Rattle.store.proofs.Places.{nth_drop}
use Rattle.store.specs.declared.record.Record.{Record}
use Rattle.matching.specs.Matching.{is_met, meeting_quantity}

pub met_push : (n : Record) (xs : List Record) (x : Record) → meeting_quantity n (xs ++ x ∷ []) ≡ meeting_quantity n xs + cond (is_met n x) x.left 0
met_push n [] x = by (is_met n x)
  where
    by : (met : Bool) → cond met (x.left + 0) 0 ≡ 0 + cond met x.left 0
    by true = omega arith
    by false = omega arith
met_push n (y ∷ ys) x = by (is_met n y) (met_push n ys x)
  where
    by :
        (met : Bool) → meeting_quantity n (ys ++ x ∷ []) ≡ meeting_quantity n ys + cond (is_met n x) x.left 0 →
        cond met (y.left + meeting_quantity n (ys ++ x ∷ [])) (meeting_quantity n (ys ++ x ∷ []))
        ≡ cond met (y.left + meeting_quantity n ys) (meeting_quantity n ys) + cond (is_met n x) x.left 0
    by true more = omega arith
    by false more = more

either : (met : Bool) (left more : ℕ) → cond met (left + more) more ≡ cond met left 0 + more
either true left more = refl
either false left more = omega arith

pub met_next : (n : Record) (xs : List Record) (k : ℕ) (x : Record) → slice_get xs k ≡ Some x → meeting_quantity n (drop k xs) ≡ cond (is_met n x) x.left 0 + meeting_quantity n (drop (k + 1) xs)
met_next n xs k x e = ap (meeting_quantity n) (nth_drop xs k x e) ∙ either (is_met n x) x.left (meeting_quantity n (drop (k + 1) xs))

pub met_end : (n : Record) (xs : List Record) (k : ℕ) → length xs ≤ k → meeting_quantity n (drop k xs) ≡ 0
met_end n xs k h = ap (meeting_quantity n) (drop_all k xs h)
