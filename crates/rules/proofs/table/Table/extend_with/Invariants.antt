use Rattle.std.proofs.Common.{◌≡◌, ◌+◌, ◌≤◌, ◌++◌, length, drop, Option}
use Rattle.std.specs.List.{filter_map}
use Rattle.rules.specs.Register.{Computes}
use Rattle.rules.proofs.table.Table.extend_with.Given as goal

-- what is still to be made gives the whole
abbrev pub invariant-loop-item : goal.invariant-loop-item
invariant-loop-item g l =
    ((make : _ → Option _) → Computes (goal.F-post g l.f) make
    → l.self ++ filter_map make (drop l.item-index l.items) ≡ l.initial.self ++ filter_map make l.items)
    × (length l.self ≤ length l.initial.self + l.item-index)
