use Rattle.std.proofs.Common.{arith}
use Rattle.std.proofs.lemmas.Bool.Decides.{nat_tests}
use Rattle.ouch.specs.Reply.{reply_read}
use Rattle.ouch.proofs.reply.Reply.decode.Goals as goal

pub returns-in_default : goal.returns-in_default
unfolding reply_read
returns-in_default c = grind (arith, nat_tests)
