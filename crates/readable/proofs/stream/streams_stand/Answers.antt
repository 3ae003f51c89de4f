use Rattle.readable.proofs.Once.{cut_once, framed_cut}
use Rattle.readable.proofs.stream.streams_stand.Goals as goal

pub returns : goal.returns
returns c = record { once = cut_once; framed = framed_cut }
