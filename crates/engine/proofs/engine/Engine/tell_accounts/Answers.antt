use Rattle.std.proofs.Common.{refl, ap, ◌∙◌, add-one}
use Rattle.ouch.specs.declared.reply.Reply.TheVariants.{SystemEvent}
use Rattle.engine.specs.Calls.{replied_each}
use Rattle.market.specs.Changes.{replied}
use Rattle.market.specs.Host.{Host}
use Rattle.engine.proofs.engine.Engine.tell_accounts.Goals as goal

pub loop-account-init : goal.loop-account-init
unfolding replied_each
loop-account-init g c = refl

pub loop-account-preserved : goal.loop-account-preserved
unfolding replied_each
loop-account-preserved g c =
    rw add-one
    (c.reply.ensures
    ∙ ap (λ (h : Host). replied h c.loop-account.account (SystemEvent (record { time = c.into.result; event = c.args.event }))) c.loop-account.invariant)
