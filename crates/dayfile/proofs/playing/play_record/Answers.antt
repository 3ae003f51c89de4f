use Rattle.dayfile.proofs.Turns.{refused, stuck, emptied_out}
use Rattle.dayfile.proofs.playing.play_record.Goals as goal

pub returns-in_err-take_record : goal.returns-in_err-take_record
returns-in_err-take_record g c =
    refused _ _ c.args.bytes.now c.args.out.now c.in_err-take_record.field-0.0 c.from_residual.result c.from_residual.ensures.1
    c.in_err-take_record.ensures.taken

pub returns-in_err-collect : goal.returns-in_err-collect
returns-in_err-collect g c =
    stuck _ _ _ _ c.args.bytes.now c.args.out.now _ c.in_err-collect.field-0.0 c.from_residual-in_err-collect.result
    c.from_residual-in_err-collect.ensures.1 c.in_ok-take_record.ensures.taken c.in_err-collect.ensures c.copy_out-lengths.ensures.after

pub returns : goal.returns
returns g c =
    emptied_out _ _ _ _ _ _ c.args.bytes.now c.args.out.now _ c.in_ok-take_record.ensures.taken c.in_ok-collect.ensures
    c.copy_out-lengths.ensures.answer c.copy_out-lengths.ensures.after
