-- A message that is not ignored is answered with a reply, so that one without a reply changes nothing but the clock.
use Rattle.std.proofs.Common.{◌≡◌, ℕ, zero, suc, ◌<◌, ◌≤◌, Bool, true, false, cond, ◌||◌, eqb, leb, List, [], ◌∷◌, ◌++◌, length, Some, None, Ok, Err, Option, Result, refl, ap, arith}
use Rattle.std.proofs.lemmas.List.{length-append, length_push}
use Rattle.std.proofs.lemmas.Bool.{and_from, cond_both, le-leb}
use Rattle.fields.proofs.Be.{length-be}
use Rattle.line.specs.Meaning.{Meaning, taken, takes}
use Rattle.ouch.specs.Inbound.{Asked, AskedFits, EnterOrder, cancel, enter, inbound, replace}
use Rattle.ouch.specs.Reply.{addressed, reply_bytes}
use Rattle.ouch.specs.declared.inbound.MessageFault.{MessageFault}
use Rattle.ouch.specs.declared.inbound.Replace.{Replace}
use Rattle.ouch.specs.declared.letters.CancelReason.{CancelReason}
use Rattle.ouch.specs.declared.letters.CancelReason.TheVariants as cancels
use Rattle.ouch.specs.declared.letters.Liquidity.TheVariants as liquidity
use Rattle.ouch.specs.declared.letters.RejectReason.{RejectReason}
use Rattle.ouch.specs.declared.reply.Reply.{Reply}
use Rattle.ouch.proofs.Asks.{inbound_sound}
use Rattle.store.specs.Records.{found}
use Rattle.store.specs.declared.record.Record.{Record}
use Rattle.rules.specs.Reasons.{enter_reason, immediate}
use Rattle.rules.specs.Tables.{last_token}
use Rattle.rules.specs.declared.fault.Fault.{Fault}
use Rattle.engine.specs.Calls as calls
use Rattle.engine.specs.Calls.{decided, message_done, message_fault, message_read, more}
use Rattle.market.specs.Changes.{canceled_reply, lessened, published, record_at, replied, withdrawn}
use Rattle.market.specs.Host.{Host, live, with_clock, with_token}
use Rattle.market.specs.declared.change.Change.TheVariants as change
use Rattle.matching.specs.Matching.{Walked, best_met, dealt, executed, executed_reply, is_dead, matched, meeting_quantity, placed, settled, unfilled_reply, walk, walked}
use Rattle.orders.specs.Orders.{accepted_as, accepted_reply, amended, answered, canceled_at, full, judged, newcomer, numbered, reason_at, rejected_reply, rejudged, replaced_at, replaced_reply, replacement}
use Rattle.law.specs.Runs.{step}
use Rattle.law_orders.specs.Statements.{SilentLeaves}

-- ---- every first reply to a message fits the line

module _ (t : ℕ) where
  short_canceled : (x : Record) (r : CancelReason) → length (reply_bytes (canceled_reply t x r)) ≤ 79
  unfolding reply_bytes
  short_canceled x r = simp (length-append, length-be) (omega arith)

  short_rejected : (m : EnterOrder) (r : RejectReason) → length (reply_bytes (rejected_reply t m r)) ≤ 79
  unfolding reply_bytes
  short_rejected m r = simp (length-append, length-be) (omega arith)

  short_replaced : (m : Replace) (n : Record) (dead : Bool) → length (reply_bytes (replaced_reply t m n dead)) ≤ 79
  unfolding reply_bytes
  short_replaced m n dead = simp (length-append, length-be) (omega arith)

  short_accepted : (m : EnterOrder) (n : Record) (dead : Bool) → AskedFits (enter m) → length (reply_bytes (accepted_reply t m n dead)) ≤ 79
  unfolding reply_bytes
  short_accepted m n dead f =
      let reference : length m.reference ≡ 10 = f.1.0 in
      let group : length m.group ≡ 4 = f.1.1.1.1.1.0 in
      simp (length-append, length-be, reference, group) (omega arith)

-- ---- replies that wait

abbrev waits : Host → ℕ
waits h = length h.replies.waiting

-- no reply is taken back
waits-taken : (l : Meaning) (b : List ℕ) → length l.waiting ≤ length (taken l b).waiting
waits-taken l b =
    cond_both (takes l b) (l.waiting ++ b ∷ []) l.waiting (λ (w : List (List ℕ)). length l.waiting ≤ length w)
    (λ _. omega (arith, length_push l.waiting b)) (λ _. omega arith)

waits-replied : (h : Host) (account : ℕ) (r : Reply) → waits h ≤ waits (replied h account r)
waits-replied h account r = waits-taken h.replies (addressed account r)

-- a reply that fits, while a place is free, is one more
told : (h : Host) (account : ℕ) (r : Reply) → 1 ≤ h.replies.free → length (reply_bytes r) ≤ 79 → waits h < waits (replied h account r)
told h account r free short =
    let some : 1 ≤ length (addressed account r) = omega arith in
    let few : length (addressed account r) ≤ 80 = omega arith in
    let fits : takes h.replies (addressed account r) ≡ true = and_from _ _ (and_from _ _ (le-leb _ _ some) (le-leb _ _ few)) (le-leb _ _ free) in
    rw fits (omega (arith, length_push h.replies.waiting (addressed account r)))

waits-executed : (h : Host) (t : ℕ) (n : Record) (k : ℕ) (x : Record) → waits h ≤ waits (executed h t n k x)
waits-executed h t n k x =
    let own : Reply = executed_reply h t n x (dealt n x) x.rate liquidity.Removed in
    let a = waits-replied h n.account own in
    let b = waits-replied (replied h n.account own) x.account (executed_reply h t x n (dealt n x) x.rate liquidity.Added) in
    omega arith

waits-walk : (fuel : ℕ) (h : Host) (t : ℕ) (n : Record) → waits h ≤ waits (walk fuel h t n).host
unfolding walk
waits-walk zero h t n = omega arith
waits-walk (suc fuel) h t n =
    by (eqb n.left 0) (best_met h n) _ (λ k. waits-walk fuel (executed h t n k (record_at k h.orders)) t (lessened (dealt n (record_at k h.orders)) n))
  where
    by :
        (b : Bool) (o : Option ℕ) (next : ℕ → Walked) → ((k : ℕ) → waits (executed h t n k (record_at k h.orders)) ≤ waits (next k).host) →
        waits h ≤ waits (cond b (walked h n) (elim o as (λ _. Walked) [ None ↦ walked h n | Some k ↦ next k ])).host
    by true o next ih = omega arith
    by false None next ih = omega arith
    by false (Some k) next ih = let a = waits-executed h t n k (record_at k h.orders) in let b = ih k in omega arith

waits-settled : (w : Walked) (t : ℕ) (now : Bool) → waits w.host ≤ waits (settled w t now)
waits-settled w t now =
    let n : Record = w.newcomer in
    let canceled : Host = replied w.host n.account (unfilled_reply t n) in
    let rested : Host = published w.host t (change.Rest n) in
    let More : Host → Type 0 = λ i. waits w.host ≤ waits i in
    let same : waits w.host ≤ waits w.host = omega arith in
    cond_both (eqb n.left 0) w.host (cond now canceled rested) More (λ _. same)
    (λ _. cond_both now canceled rested More (λ _. waits-replied w.host n.account (unfilled_reply t n)) (λ _. same))

waits-placed : (h : Host) (t : ℕ) (n : Record) (force : ℕ) → waits h ≤ waits (placed h t n force)
waits-placed h t n force = let a = waits-walk (live h) h t n in let b = waits-settled (matched h t n) t (immediate force) in omega arith

waits-amended : (h : Host) (t : ℕ) (m : Replace) (k : ℕ) (n : Record) (dead : Bool) (meeting : ℕ) → waits h ≤ waits (amended h t m k n dead meeting)
waits-amended h t m k n dead meeting =
    let gone : Host = published h t (change.Withdraw k) in
    let amends : Host = published h t (change.Amend k n) in
    let back : Host = placed gone t n m.force in
    let More : Host → Type 0 = λ i. waits h ≤ waits i in
    let same : waits h ≤ waits h = omega arith in
    cond_both dead gone (cond (eqb meeting 0) amends back) More (λ _. same)
    (λ _. cond_both (eqb meeting 0) amends back More (λ _. same) (λ _. waits-placed gone t n m.force))

-- ---- a message that is not ignored

module _ (t : ℕ) (h : Host) (free : 1 ≤ h.replies.free) where
  abbrev Told : Host → Type 0
  Told i = waits h < waits i

  told-accepted : (m : EnterOrder) (n : Record) (dead : Bool) → AskedFits (enter m) → Told (accepted_as h t m n dead)
  told-accepted m n true f = told h n.account (accepted_reply t m n true) free (short_accepted t m n true f)
  told-accepted m n false f =
      let first = told h n.account (accepted_reply t m n false) free (short_accepted t m n false f) in
      let more = waits-placed (numbered h n.account (accepted_reply t m n false)) t n m.force in
      omega arith

  told-judged : (account : ℕ) (m : EnterOrder) (o : Option RejectReason) → AskedFits (enter m) → Told (judged h t account m o)
  told-judged account m (Some r) f = told h account (rejected_reply t m r) free (short_rejected t m r)
  told-judged account m None f =
      let n : Record = newcomer h account m in
      told-accepted m n (is_dead m.force m.display m.minimum (meeting_quantity n h.orders)) f

  told-withdrawn : (k : ℕ) (r : CancelReason) → Told (withdrawn h t k r)
  told-withdrawn k r = let x : Record = record_at k h.orders in told h x.account (canceled_reply t x r) free (short_canceled t x r)

told-rejudged : (h : Host) (t : ℕ) (m : Replace) (k : ℕ) (o : Option CancelReason) → 1 ≤ h.replies.free → waits h < waits (rejudged h t m k o)
told-rejudged h t m k (Some r) free = told-withdrawn t h free k r
told-rejudged h t m k None free =
    let n : Record = replacement h (record_at k h.orders) m in
    let meeting : ℕ = meeting_quantity n h.orders in
    let dead : Bool = eqb n.left 0 || is_dead m.force m.display m.minimum meeting in
    let first = told h n.account (replaced_reply t m n dead) free (short_replaced t m n dead) in
    let more = waits-amended (numbered (with_token h n.account m.replacement) n.account (replaced_reply t m n dead)) t m k n dead meeting in
    omega arith

-- ---- a message without a reply

-- what is told is not ignored
unless_told : (h i : Host) (ignored : Bool) → waits h < waits i → waits (cond ignored h i) ≤ waits h → cond ignored h i ≡ h
unless_told h i true l none = refl
unless_told h i false l none = absurd (omega arith)

module _ (h : Host) (t account : ℕ) (free : 1 ≤ h.replies.free) where
  silent_replaced : (m : Replace) (o : Option ℕ) → waits (replaced_at h t account m o) ≤ waits h → replaced_at h t account m o ≡ h
  silent_replaced m None none = refl
  silent_replaced m (Some k) none =
      let o : Option CancelReason = reason_at h m (record_at k h.orders) in
      unless_told h (rejudged h t m k o) (leb m.replacement (last_token account h.accounts)) (told-rejudged h t m k o free) none

  silent_canceled : (o : Option ℕ) → waits (canceled_at h t o) ≤ waits h → canceled_at h t o ≡ h
  silent_canceled None none = refl
  silent_canceled (Some k) none = let told = told-withdrawn t h free k cancels.User in absurd (omega arith)

  silent_answered : (m : Asked) → AskedFits m → waits (answered h t account m) ≤ waits h → answered h t account m ≡ h
  silent_answered (enter m) f none =
      let o : Option RejectReason = enter_reason h.phase h.rows h.books (full h) m in
      let i : Host = with_token h account m.token in
      unless_told h (judged i t account m o) (leb m.token (last_token account h.accounts)) (told-judged t i free account m o f) none
  silent_answered (replace m) f none = silent_replaced m (found account m.existing h.orders) none
  silent_answered (cancel m) f none = silent_canceled (found account m.token h.orders) none

-- an accepted message has room for its replies
message_free : (h : Host) (t account : ℕ) → message_fault h t account ≡ None → 1 ≤ h.replies.free
message_free h t account e = grind arith

module _ (h : Host) (t account : ℕ) (n : ℕ × ℕ) (none : n.1 ≡ 0) where
  silent_decided : (m : Asked) (o : Option Fault) → AskedFits m → message_fault h t account ≡ o → (decided h o (message_done h t account m)).answer ≡ Ok n → (decided h o (message_done h t account m)).after ≡ with_clock h t
  silent_decided m (Some g) f e a = let z : ◌≡◌ {A = ℕ} 0 1 = cc in absurd (omega arith)
  silent_decided m None f e a =
      let count : (more h.feed (message_done h t account m).feed, more h.replies (message_done h t account m).replies) ≡ n = cc a in
      let replies = ap (λ (p : ℕ × ℕ). p.1) count in
      silent_answered (with_clock h t) t account (message_free h t account e) m f (omega arith)

  silent_read : (r : Result Asked MessageFault) → ((m : Asked) → r ≡ Ok m → AskedFits m) → (message_read h t account r).answer ≡ Ok n → (message_read h t account r).after ≡ with_clock h t
  silent_read (Err g) f a = let z : ◌≡◌ {A = ℕ} 0 1 = cc in absurd (omega arith)
  silent_read (Ok m) f a = silent_decided m (message_fault h t account) (f m refl) refl a

pub silent_leaves : SilentLeaves
unfolding step calls.message
silent_leaves h t account bytes fits n a none = silent_read h t account n none (inbound bytes) (λ m e. inbound_sound.fits bytes m fits.2 e) a
