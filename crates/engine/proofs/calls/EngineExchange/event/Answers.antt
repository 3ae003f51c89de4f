use Rattle.market.specs.Host.{Host}
use Rattle.engine.specs.Calls.{event, event_done}
use Rattle.engine.proofs.Decided.{refused, passed}
use Rattle.engine.proofs.calls.EngineExchange.event.Goals as goal

pub returns-in_err-time : goal.returns-in_err-time
unfolding event
returns-in_err-time g c = refused c.args.self.now.market.host _ _ _ _ c.from_residual.result c.in_err-time.ensures c.from_residual.ensures.1

pub returns : goal.returns
unfolding event
returns g c =
    let h : Host = c.args.self.now.market.host in
    passed h c.run_event.new.self.market.host (λ t. event_done h t c.args.letter) _ _ _ _ _ c.in_ok-time.ensures c.run_event.ensures c.waiting-before.ensures c.added.ensures
