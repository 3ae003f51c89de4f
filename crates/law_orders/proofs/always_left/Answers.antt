use Rattle.law_orders.proofs.Left.{always_left}
use Rattle.law_orders.proofs.always_left.Goals as goal

pub returns : goal.returns
returns c = always_left
