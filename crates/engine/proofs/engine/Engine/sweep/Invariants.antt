use Rattle.std.proofs.Common.{◌≡◌, length}
use Rattle.engine.specs.Sweep.{swept}
use Rattle.engine.proofs.Sweeps.{swept_on}
use Rattle.engine.proofs.engine.Engine.sweep.Given as goal

-- what is left to sweep from the place where the walk goes on gives the whole
abbrev pub invariant-loop-place : goal.invariant-loop-place
invariant-loop-place g l = swept_on l.time l.account l.start l.self.market.host ≡ swept l.initial.self.market.host l.time l.account

abbrev pub decreases-loop-place : goal.decreases-loop-place
decreases-loop-place g l = length l.self.market.host.orders
