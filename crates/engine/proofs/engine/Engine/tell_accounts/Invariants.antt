use Rattle.std.proofs.Common.{◌≡◌}
use Rattle.engine.specs.Calls.{replied_each}
use Rattle.engine.proofs.engine.Engine.tell_accounts.Given as goal

-- the accounts below this one are told
abbrev pub invariant-loop-account : goal.invariant-loop-account
invariant-loop-account g l =
    l.self.market.host
    ≡ replied_each l.account l.initial.self.market.host l.reply
