use Rattle.std.proofs.Common.{Some, rules}
use Rattle.market.specs.declared.change.Change.TheVariants as change
use Rattle.market.proofs.Told.{announced, state_where_trading}
use Rattle.market.proofs.market.Market.announcement.Goals as goal

pub returns : goal.returns
returns g c =
    rw (← c.self.view_is, ← c.as_slice.ensures.value, ← c.as_slice-books.ensures.value)
    (announced _ _ _ _ _ _ _ _ _ c.new-changes.ensures c.push.ensures
    (c.extend_with.ensures.added (λ r. Some (change.Tick r)) (λ a r p. search rules))
    (c.extend_with-2.ensures.added (λ b. Some (change.Directory b)) (λ a r p. search rules))
    (c.extend_with-3.ensures.added (λ b. Some (change.Reference b.code b.reference)) (λ a r p. search rules))
    (c.extend_with-4.ensures.added state_where_trading (λ a r p. search rules)))
