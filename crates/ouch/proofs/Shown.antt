-- The examples, by computation.
use Rattle.std.proofs.Common.{refl}
use Rattle.fields.specs.Be.{be}
use Rattle.ouch.specs.Examples.{InboundExamples, ReplyExamples}
use Rattle.ouch.specs.Inbound.{inbound}
use Rattle.ouch.specs.Reply.{reply_bytes}

pub inbound_examples : InboundExamples
unfolding inbound
inbound_examples = record { enter_example = refl; replace_example = refl; cancel_example = refl }

pub reply_examples : ReplyExamples
unfolding be reply_bytes
reply_examples = record { accepted_example = refl; executed_example = refl; canceled_example = refl }
