use Rattle.law_orders.proofs.Refused.{refused_leaves}
use Rattle.law_orders.proofs.refused_leaves.Goals as goal

pub returns : goal.returns
returns c = refused_leaves
