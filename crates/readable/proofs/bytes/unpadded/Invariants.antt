use Rattle.std.proofs.Common.{◌≡◌, length}
use Rattle.readable.specs.Spelling.{unpadded}
use Rattle.readable.proofs.bytes.unpadded.Given as goal

abbrev pub invariant-loop-text : goal.invariant-loop-text
invariant-loop-text l = unpadded l.text ≡ unpadded l.fn.text

abbrev pub decreases-loop-text : goal.decreases-loop-text
decreases-loop-text l = length l.text
