use Rattle.law_copies.proofs.Copies.{copies}
use Rattle.law_copies.proofs.copies_stand.Goals as goal

pub returns : goal.returns
returns c = copies
