use Rattle.std.proofs.Common.{◌≡◌, Err}
use Rattle.std.proofs.lemmas.Result.{err_from_is_err_and}
use Rattle.rules.specs.declared.fault.FileFault.TheVariants.{Engine}
use Rattle.dayfile.proofs.Steps.{unread, refused, accepted, record_keeps}
use Rattle.dayfile.proofs.taking.take_record.Goals as goal

pub returns-in_err-command : goal.returns-in_err-command
returns-in_err-command g c =
    let h = g.E.Exchange.host c.args.exchange.now in
    let b = c.args.bytes.now in
    let f = c.in_err-command.field-0.0 in
    let p = err_from_is_err_and c.from_residual.result c.from_residual.ensures.1 in
    let e = unread h b f c.in_err-command.ensures in
    rw (p.1, p.2) (record { taken = e; kept = record_keeps h h b (Err f) e })

pub returns-in_err-apply : goal.returns-in_err-apply
returns-in_err-apply g c =
    let h = g.E.Exchange.host c.args.exchange.now in
    let k = g.E.Exchange.host c.apply.new.exchange in
    let b = c.args.bytes.now in
    let f = c.in_err-apply.field-0.0 in
    let p = err_from_is_err_and {Q = λ y. y ≡ Engine f} c.from_residual-in_err-apply.result c.from_residual-in_err-apply.ensures.1 in
    let e = refused h k b c.in_ok-command.command f c.in_ok-command.ensures c.in_err-apply.ensures in
    rw (p.1, p.2) (record { taken = e; kept = record_keeps h k b (Err (Engine f)) e })

pub returns : goal.returns
returns g c =
    let h = g.E.Exchange.host c.args.exchange.now in
    let k = g.E.Exchange.host c.apply.new.exchange in
    record {
      taken =
          accepted h k c.args.bytes.now c.in_ok-command.command c.in_ok-apply.field-0
          c.in_ok-command.ensures c.in_ok-apply.ensures;
      kept = tt;
    }
