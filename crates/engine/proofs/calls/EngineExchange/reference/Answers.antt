use Rattle.std.proofs.Common.{rules}
use Rattle.market.specs.Host.{Host}
use Rattle.engine.specs.Calls.{reference, reference_done}
use Rattle.engine.proofs.Decided.{passed}
use Rattle.engine.proofs.calls.EngineExchange.reference.Goals as goal

pub returns : goal.returns
unfolding reference
returns g c =
    let h : Host = c.args.self.now.market.host in
    passed h c.run_reference.new.self.market.host (λ t. reference_done h t c.args.code c.args.rate) _ _ _ _ _ c.in_ok-time.ensures (search rules) c.waiting-before.ensures c.added.ensures
