use Rattle.law_orders.proofs.Silent.{silent_leaves}
use Rattle.law_orders.proofs.silent_leaves.Goals as goal

pub returns : goal.returns
returns c = silent_leaves
