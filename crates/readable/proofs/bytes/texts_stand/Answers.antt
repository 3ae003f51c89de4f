use Rattle.readable.proofs.TextTells.{text_tells}
use Rattle.readable.proofs.bytes.texts_stand.Goals as goal

pub returns : goal.returns
returns c = text_tells
