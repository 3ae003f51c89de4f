-- In every run something is left of every live order.
use Rattle.std.proofs.Common.{arith}
use Rattle.std.proofs.ByRecursion.{All-push, All-set}
use Rattle.law.specs.Runs.{start}
use Rattle.law_copies.proofs.Keys.{all_removed}
use Rattle.law_orders.specs.Statements.{AllLeft, AlwaysLeft}
use Rattle.law_orders.proofs.Stays.{Stays, stays_run}

pub left_stays : Stays AllLeft
left_stays = record {
  removes = λ xs k l. all_removed _ xs k l;
  lessens = λ xs k q less l. All-set _ xs k _ (omega arith) l;
  rests = λ xs n some unmet l. All-push _ xs n l some;
  amends = λ xs k n some unmet l. All-set _ xs k n some l;
}

pub always_left : AlwaysLeft
always_left s fits cs fit = stays_run AllLeft left_stays (start s) cs tt
