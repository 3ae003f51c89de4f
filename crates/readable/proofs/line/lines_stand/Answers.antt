use Rattle.readable.proofs.HexRead.{unknown_names}
use Rattle.readable.proofs.OneLine.{one_line_lem}
use Rattle.readable.proofs.line.lines_stand.Goals as goal

pub returns : goal.returns
returns c = record { one = one_line_lem; names = unknown_names }
