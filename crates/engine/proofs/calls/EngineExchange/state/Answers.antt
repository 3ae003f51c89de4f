use Rattle.std.proofs.Common.{◌≡◌, Bool, ap, ◌∙◌, is_some, rules}
use Rattle.fields.specs.Letters.{state_of}
use Rattle.market.specs.Host.{Host}
use Rattle.engine.specs.Calls.{decided, book_fault, state, state_done}
use Rattle.engine.proofs.Decided.{refused, passed}
use Rattle.engine.proofs.calls.EngineExchange.state.Goals as goal

pub returns-in_err-time : goal.returns-in_err-time
unfolding state
returns-in_err-time g c =
    let h : Host = c.args.self.now.market.host in
    let after : Host = state_done h c.args.time c.args.code c.args.letter in
    let read : c.is_ok-allowed.result ≡ is_some (state_of c.args.letter) = search rules in
    refused h after _ _ _ c.from_residual.result c.in_err-time.ensures c.from_residual.ensures.1
    ∙ ap (λ (b : Bool). decided h (book_fault h c.args.time c.args.code b) after) read

pub returns : goal.returns
unfolding state
returns g c =
    let h : Host = c.args.self.now.market.host in
    let after : Host = state_done h c.args.time c.args.code c.args.letter in
    let read : c.is_ok-allowed.result ≡ is_some (state_of c.args.letter) = search rules in
    passed h c.run_state.new.self.market.host (λ t. state_done h t c.args.code c.args.letter) _ _ _ _ _ c.in_ok-time.ensures c.run_state.ensures c.waiting-before.ensures c.added.ensures
    ∙ ap (λ (b : Bool). decided h (book_fault h c.args.time c.args.code b) after) read
