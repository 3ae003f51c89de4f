use Rattle.std.proofs.Common.{rules}
use Rattle.std.proofs.Math.Seq.{take-set-lt}
use Rattle.rules.proofs.table.Table.set.Goals as goal

pub returns-then-k-self : goal.returns-then-k-self
returns-then-k-self g c = search (rules, take-set-lt)
