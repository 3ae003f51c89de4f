use Rattle.std.proofs.Common.{subst}
use Rattle.std.specs.List.{IsSplitAt}
use Rattle.readable.proofs.Cuts.{Front, front_from, shown-more}
use Rattle.readable.proofs.stream.show_whole.Goals as goal

front : (c : goal.In_ok-show_packet) → Front c.loop-packet.rest.now c.in-Some.packet.now c.in-Some.behind.now
front c =
    front_from _ _ _
    (subst (λ n. IsSplitAt c.loop-packet.rest.now n c.in-Some.packet.now c.in-Some.behind.now) c.wanted.ensures c.in-Some.ensures.cases)

pub loop-packet-preserved : goal.loop-packet-preserved
loop-packet-preserved c =
    let step = c.in_ok-show_packet.ensures in
    shown-more _ _ (front c) c.loop-packet.invariant step.second step.line
