use Rattle.std.proofs.Common.{get_or-take, rules}
use Rattle.std.proofs.Math.Seq.{take-set-lt}
use Rattle.std.proofs.lemmas.List.{get_or_default}
use Rattle.rules.proofs.table.accounts.Accounts.accept.Goals as goal

pub returns-then-k-self : goal.returns-then-k-self
returns-then-k-self c = search (rules, take-set-lt, get_or-take, get_or_default)
