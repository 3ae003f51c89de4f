use Rattle.std.proofs.Common.{decimal, sym, arith}
use Rattle.std.proofs.lemmas.Fmt.{length-decimal-le}
use Rattle.std.proofs.lemmas.Grind.{common_steps}
use Rattle.dayfile.specs.Packet.{layer_name}
use Rattle.dayfile.proofs.Figures.{decimal_short, length_spaced}
use Rattle.dayfile.proofs.packet.fault_text.Goals as goal

pub put_decimal-requires : goal.put_decimal-requires
put_decimal-requires c =
    let n = length-decimal-le 3 c.from.result (omega arith) (omega arith) (omega arith) in grind (arith, common_steps)

pub put-requires-2 : goal.put-requires-2
put-requires-2 c =
    let n = length-decimal-le 3 c.from.result (omega arith) (omega arith) (omega arith) in grind (arith, common_steps)

pub put_decimal-requires-2 : goal.put_decimal-requires-2
put_decimal-requires-2 c =
    let n = length-decimal-le 3 c.from.result (omega arith) (omega arith) (omega arith) in
    let p = decimal_short c.args.place in
    grind (arith, common_steps)

pub returns-clause-fits : goal.returns-clause-fits
returns-clause-fits c =
    let n = decimal c.from.result in
    rw (sym c.from.ensures)
    (omega (arith, length_spaced (layer_name c.args.layer) n (decimal c.args.place) 32, c.layer_name.ensures.fits, length-decimal-le 3 c.from.result (omega arith) (omega arith) (omega arith), decimal_short c.args.place))
