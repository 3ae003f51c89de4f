use Rattle.law_orders.proofs.Ignored.{ignored_leaves}
use Rattle.law_orders.proofs.ignored_leaves.Goals as goal

pub returns : goal.returns
returns c = ignored_leaves
