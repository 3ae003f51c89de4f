use Rattle.law_orders.proofs.Unmet.{rests_unmet}
use Rattle.law_orders.proofs.rests_unmet.Goals as goal

pub returns : goal.returns
returns c = rests_unmet
