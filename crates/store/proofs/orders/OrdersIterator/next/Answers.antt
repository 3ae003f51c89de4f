use Rattle.std.proofs.Common.{sym, ◌∙◌}
use Rattle.store.proofs.Places.{nth_drop}
use Rattle.store.proofs.orders.OrdersIterator.next.Goals as goal

pub returns-clause-steps : goal.returns-clause-steps
returns-clause-steps g c =
    sym c.self.view_is ∙ nth_drop (g.R.Records.list c.self.inside.records.now) c.self.inside.place _ c.step-next.ensures.order
