use Rattle.std.proofs.Common.{◌≡◌, ℕ, ◌+◌, ◌≤◌, cond, List, length, Some, None, Ok, Err, Option, arith}
use Rattle.std.specs.Prelude.{◌==◌}
use Rattle.std.specs.Option.{ok_or}
use Rattle.std.proofs.lemmas.Bool.Decides.{nat_tests}
use Rattle.rules.specs.declared.fault.FileFault.TheVariants.{Malformed, Truncated}
use Rattle.dayfile.specs.Records.{length_read, value_read, record_read}
use Rattle.dayfile.specs.FramingLemmas.{reads}
use Rattle.dayfile.specs.declared.command.Tag.{Tag}
use Rattle.dayfile.proofs.command.Command.read.Goals as goal

whole : (o : Option Tag) (t : Tag) (b : List ℕ) (n : ℕ) → Ok t ≡ cond (length b == 0) (Err Truncated) (ok_or o Malformed)
    → Ok n ≡ length_read t b → 3 + n ≤ length b → Ok (value_read t b) ≡ reads o b
whole None t b n e l h = grind (arith, nat_tests)
whole (Some u) t b n e l h = grind (arith, nat_tests)

pub returns : goal.returns
unfolding record_read
returns c = rw c.value.ensures (whole _ _ c.args.bytes.now _ c.in_ok-tag.ensures c.in_ok-length.ensures (omega arith))
