use Rattle.std.proofs.Common.{ap, ◌∙◌}
use Rattle.ouch.specs.Inbound.{asked}
use Rattle.market.specs.Host.{Host}
use Rattle.engine.specs.Calls.{message, message_read, message_fault, message_done}
use Rattle.engine.proofs.Decided.{refused, passed}
use Rattle.engine.proofs.calls.EngineExchange.message.Goals as goal

pub returns-in_err-time : goal.returns-in_err-time
unfolding message
returns-in_err-time g c =
    let h : Host = c.args.self.now.market.host in
    refused h (message_done h c.args.time c.args.account (asked c.in_ok-message.message)) (message_fault h c.args.time c.args.account) _ _ c.from_residual-in_err-time.result c.in_err-time.ensures c.from_residual-in_err-time.ensures.1
    ∙ ap (message_read h c.args.time c.args.account) c.in_ok-message.ensures

pub returns : goal.returns
unfolding message
returns g c =
    let h : Host = c.args.self.now.market.host in
    passed h c.run_message.new.self.market.host (λ t. message_done h t c.args.account (asked c.in_ok-message.message)) (message_fault h c.args.time c.args.account) _ _ _ _ c.in_ok-time.ensures c.run_message.ensures c.waiting-before.ensures c.added.ensures
    ∙ ap (message_read h c.args.time c.args.account) c.in_ok-message.ensures
