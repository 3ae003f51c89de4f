use Rattle.std.proofs.Common.{◌-◌, ◌^◌, ◌≤◌, length, vec_items}
use Rattle.framing.proofs.read_unit.Given as goal

-- the unit has no more bytes than its front says
abbrev pub invariant-loop-missing : goal.invariant-loop-missing
invariant-loop-missing g l = length (vec_items l.unit) ≤ g.F.Framed.size (vec_items l.unit)

-- a unit is shorter than the memory
abbrev pub decreases-loop-missing : goal.decreases-loop-missing
decreases-loop-missing g l = 2 ^ 64 - length (vec_items l.unit)
