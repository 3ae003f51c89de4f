use Rattle.std.proofs.Common.{◌≡◌, ◌+◌, ◌^◌, ◌<◌, ◌≤◌, min, length}
use Rattle.matching.specs.Matching.{matched}
use Rattle.matching.proofs.walk.walk.Given as goal

-- what is left to execute from here gives the whole; and each execution uses a match number, and ends the walk or an
-- order
abbrev pub invariant-loop-newcomer : goal.invariant-loop-newcomer
invariant-loop-newcomer g l =
    (matched l.market.host l.time l.newcomer ≡ matched l.initial.market.host l.time l.initial.newcomer)
    × (0 < l.newcomer.left → l.market.host.next_match + length l.market.host.orders ≤ 2 ^ 63 + 4096)

-- the orders that are live, and the newcomer
abbrev pub decreases-loop-newcomer : goal.decreases-loop-newcomer
decreases-loop-newcomer g l = length l.market.host.orders + min l.newcomer.left 1
