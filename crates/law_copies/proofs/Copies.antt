-- A second copy of a message that was answered with a reply changes nothing but the clock.
use Rattle.std.proofs.Common.{◌≡◌, ℕ, Some, None, Ok, Err, Option, Result, refl, ap, ◌∙◌, arith}
use Rattle.line.specs.Meaning.{Meaning}
use Rattle.ouch.specs.Inbound.{Asked, inbound}
use Rattle.ouch.specs.declared.inbound.MessageFault.{MessageFault}
use Rattle.rules.specs.declared.fault.Fault.{Fault}
use Rattle.engine.specs.Calls as calls
use Rattle.engine.specs.Calls.{decided, message_done, message_fault, message_read, more}
use Rattle.market.specs.Host.{Host, with_clock}
use Rattle.law.specs.Law.{Copied, CopiesChangeNothing, Replied}
use Rattle.law.specs.Runs.{Day, lineless, message, run, start, step, then}
use Rattle.law_copies.proofs.Idle.{idle_after, idle_answered, idle_later}
use Rattle.law_copies.proofs.Moves.{Moves}
use Rattle.law_copies.proofs.Steps.{message_loaded, moves_run}
use Rattle.law_copies.proofs.Tokens.{Sound}

none_more : (l : Meaning) → more l l ≡ 0
none_more l = omega arith

-- a call that does nothing but set the clock
copied_decided : (h i : Host) (u : ℕ) (f : Option Fault) → i ≡ with_clock h u → Copied h u (lineless (decided h f i))
copied_decided h i u (Some f) e = refl
copied_decided h i u None e =
    let feed = ap (λ (j : Host). more h.feed j.feed) e ∙ none_more h.feed in
    let replies = ap (λ (j : Host). more h.replies j.replies) e ∙ none_more h.replies in
    ((λ k. (feed k, replies k)), e)

module _ (h i : Host) (t u account : ℕ) (s : Sound h.accounts h.orders) where
  copied-asked :
      (m : Asked) (f : Option Fault) → message_fault h t account ≡ f → Replied (decided h f (message_done h t account m)).answer →
      Moves (decided h f (message_done h t account m)).after i → Copied i u (lineless (message_read i u account (Ok m)))
  copied-asked m (Some f) e a g = absurd a
  copied-asked m None e a g =
      let idle = idle_after (with_clock h t) t account (message_loaded h t account e) s m a in
      copied_decided i (message_done i u account m) u (message_fault i u account)
      (idle_answered (with_clock i u) u account m (idle_later _ _ _ _ g account m idle))

  -- what the bytes say is the same both times
  copied-read :
      (r : Result Asked MessageFault) → Replied (message_read h t account r).answer → Moves (message_read h t account r).after i →
      Copied i u (lineless (message_read i u account r))
  copied-read (Err f) a g = absurd a
  copied-read (Ok m) a g = copied-asked m (message_fault h t account) refl a g

pub copies : CopiesChangeNothing
unfolding step calls.message
copies s fits before between fit-before fit-between t u account bytes fit-first fit-second a =
    let first : Day = run (start s) before in
    let later : Day = then first (message t account bytes) in
    let sound = (moves_run (start s) before).sound (record { past = tt; apart = tt }) in
    copied-read first.host (run later between).host t u account sound (inbound bytes) a (moves_run later between)
