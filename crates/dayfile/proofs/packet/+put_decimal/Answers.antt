use Rattle.std.proofs.Common.{◌+◌, ◌/◌, ◌%◌, [], ◌∷◌, length, decimal, ap, append_assoc, arith, rules}
use Rattle.std.proofs.lemmas.Grind.{common_steps}
use Rattle.dayfile.proofs.Figures.{decimal_last, decimal_more, length_more}
use Rattle.dayfile.proofs.packet.+put_decimal.Goals as goal
use Rattle.dayfile.proofs.packet.+put_decimal.Goals.{then-n-ge10, else-n-ge10}

pub put_decimal-requires : goal.put_decimal-requires
put_decimal-requires t c =
    let e = length_more c.args.n c.if-n-ge10.true c.ranges.n.fits in search rules

pub put-requires : goal.put-requires
put-requires t c =
    elim c.if-n-ge10.branch [
      | then-n-ge10 w ↦ let e = length_more c.args.n w.if-n-ge10.true c.ranges.n.fits in grind (arith, common_steps)
      | else-n-ge10 w ↦ let e = ap length (decimal_last c.args.n w.if-n-ge10.false) in search rules
    ]

pub returns : goal.returns
returns t c =
    elim c.if-n-ge10.branch [
      | then-n-ge10 w ↦
          let e = decimal_more c.args.n w.if-n-ge10.true c.ranges.n.fits in
          let a = append_assoc c.args.frame.now (decimal (c.args.n / 10)) ((48 + c.args.n % 10) ∷ []) in
          cc
      | else-n-ge10 w ↦ let e = decimal_last c.args.n w.if-n-ge10.false in cc
    ]
