use Rattle.law_orders.proofs.Unmet.{amends_unmet}
use Rattle.law_orders.proofs.amends_unmet.Goals as goal

pub returns : goal.returns
returns c = amends_unmet
