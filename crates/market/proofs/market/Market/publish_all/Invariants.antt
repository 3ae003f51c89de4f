use Rattle.std.proofs.Common.{◌≡◌, drop}
use Rattle.market.specs.Changes.{published_all}
use Rattle.market.proofs.market.Market.publish_all.Given as goal

-- what is left to publish from here gives the whole
abbrev pub invariant-loop-change : goal.invariant-loop-change
invariant-loop-change g l =
    published_all l.self.host l.time (drop l.change-index l.changes) ≡ published_all l.initial.self.host l.time l.changes
