-- The row for a yield is the last that a walk from the last row of a table to the first leaves.
use Rattle.std.proofs.Common.{◌≡◌, ℕ, Bool, cond, true, false, ◌&&◌, ◌==◌, List, [], ◌∷◌, reverse, ℤ, int_le, None, Some, Option, refl, ap, ◌∙◌}
use Rattle.std.specs.List.{fold, filter}
use Rattle.std.proofs.lemmas.List.{reverse-append}
use Rattle.std.proofs.lemmas.List.Elements.{filter-append}
use Rattle.std.proofs.lemmas.List.Sums.{fold-append}
use Rattle.rules.specs.declared.tables.TickRow.{TickRow}
use Rattle.rules.specs.Ticks.{higher, tick_row}

abbrev pub keep : Option TickRow → TickRow → Option TickRow
keep best r = Some (higher r best)

step : (b : Bool) (r : TickRow) (best : Option TickRow) → fold keep best (cond b (r ∷ []) []) ≡ cond b (Some (higher r best)) best
step true r best = refl
step false r best = refl

module _ (table : ℕ) (y : ℤ) where
  abbrev pub reaches : TickRow → Bool
  reaches r = r.table == table && int_le r.start y

  pub from_last : (rows : List TickRow) → fold keep None (filter reaches (reverse rows)) ≡ tick_row table y rows
  from_last [] = refl
  from_last (r ∷ rs) =
      ap (λ (zs : List TickRow). fold keep None (filter reaches zs)) (reverse-append (r ∷ []) rs)
      ∙ ap (fold keep None) (filter-append reaches (reverse rs) (r ∷ []))
      ∙ fold-append keep None (filter reaches (reverse rs)) (filter reaches (r ∷ []))
      ∙ ap (λ (best : Option TickRow). fold keep best (filter reaches (r ∷ []))) (from_last rs)
      ∙ step (reaches r) r (tick_row table y rs)
