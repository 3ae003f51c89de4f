use Rattle.std.proofs.Common.{arith}
use Rattle.std.proofs.lemmas.List.{length_push}
use Rattle.matching.proofs.Meetings.{met_push}
use Rattle.matching.proofs.meeting.meeting_quantity.Goals as goal

pub loop-order-preserved : goal.loop-order-preserved
loop-order-preserved g c =
    let more = met_push c.args.newcomer c.loop-order.yielded c.in-Some.order in
    let longer = length_push c.loop-order.yielded c.in-Some.order in
    record { met = omega arith; small = omega arith }
