use Rattle.std.proofs.Common.{◌≡◌, ◌*◌, ◌≤◌, length}
use Rattle.matching.specs.Matching.{meeting_quantity}
use Rattle.matching.proofs.meeting.meeting_quantity.Given as goal

-- what is met in the orders so far; each brought 32 bits at most
abbrev pub invariant-loop-order : goal.invariant-loop-order
invariant-loop-order g l = record {
  met : l.meeting ≡ meeting_quantity l.newcomer l.yielded;
  small : l.meeting ≤ length l.yielded * 4294967295;
}
