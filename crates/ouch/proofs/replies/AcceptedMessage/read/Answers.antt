use Rattle.std.proofs.Common.{◌≡◌, Some, w32, to_z, of_z, sym, ap, ◌∙◌, rules}
use Rattle.fields.specs.Layout.{Row, read_at, apply, ◌&◌}
use Rattle.fields.specs.Letters.{side_of}
use Rattle.ouch.specs.Letters.{order_state_of}
use Rattle.ouch.specs.Replies.{accepted}
use Rattle.ouch.proofs.replies.AcceptedMessage.read.Goals as goal

pub returns : goal.returns
returns c =
    let side : side_of c.at.result ≡ Some c.in_ok-side.side = search rules in
    let state : order_state_of c.at-2.result ≡ Some c.in_ok-state.state = search rules in
    let price : to_z w32 (of_z w32 c.at-9.result) ≡ c.at-9.result = search rules in
    let row : Row accepted.fields =
    c.at-3.result & c.at-4.result & c.at-5.result & c.at.result & c.at-6.result & c.at-7.result
    & c.at-8.result & c.at-9.result & c.at-10.result & c.at-11.result & c.at-12.result & c.at-13.result
    & c.at-14.result & c.at-15.result & c.at-2.result & c.at-16.result & c.at-17.result & tt in
    let read : row ≡ read_at accepted.fields 1 c.args.bytes.now = cc in
    rw price (sym (ap (apply accepted.fields accepted.made) (sym read) ∙ rw (side, state)))
