use Rattle.readable.proofs.Places.{figures_stand}
use Rattle.readable.proofs.figures.figures_stand.Goals as goal

pub returns : goal.returns
returns c = figures_stand
