use Rattle.dayfile.proofs.Writing.{records_sound}
use Rattle.dayfile.proofs.command.records_stand.Goals as goal

pub returns : goal.returns
returns c = records_sound
