-- What the edits of the list of orders keep, every run keeps.
use Rattle.std.proofs.Common.{◌≡◌, ℕ, zero, suc, ◌+◌, ◌<◌, ◌≤◌, Bool, true, false, cond, ◌||◌, eqb, ltb, leb, List, [], ◌∷◌, ◌++◌, length, set, Some, None, Ok, Err, Option, Result, arith}
use Rattle.std.specs.List.{remove}
use Rattle.std.proofs.lemmas.Bool.{cond_both, eqb-false, eqb-true, leb-false, or_parts}
use Rattle.fields.specs.Letters.{event_of}
use Rattle.fields.specs.declared.letters.BookState.{BookState}
use Rattle.fields.specs.declared.letters.Event.{Event}
use Rattle.line.specs.Meaning.{Meaning}
use Rattle.ouch.specs.Inbound.{Asked, EnterOrder, cancel, enter, inbound, replace}
use Rattle.ouch.specs.declared.inbound.MessageFault.{MessageFault}
use Rattle.ouch.specs.declared.inbound.Replace.{Replace}
use Rattle.ouch.specs.declared.letters.CancelReason.{CancelReason}
use Rattle.ouch.specs.declared.letters.CancelReason.TheVariants as cancels
use Rattle.ouch.specs.declared.letters.DayEvent.{DayEvent}
use Rattle.ouch.specs.declared.letters.RejectReason.{RejectReason}
use Rattle.ouch.specs.declared.reply.Reply.{Reply}
use Rattle.ouch.specs.declared.reply.Reply.TheVariants as reply
use Rattle.store.specs.Records.{appended, found}
use Rattle.store.specs.declared.record.Record.{Record}
use Rattle.rules.specs.Reasons.{enter_reason, immediate}
use Rattle.rules.specs.Tables.{book_or, last_token, same_state}
use Rattle.rules.specs.declared.fault.Fault.{Fault}
use Rattle.engine.specs.Calls as calls
use Rattle.engine.specs.Calls.{day_event, decided, happened, informed, message_done, message_fault, message_read, replied_each, shot_unless, snapshot_fault, stated}
use Rattle.engine.specs.Sweep.{swept_from}
use Rattle.market.specs.Changes.{amended_at, announcement, executed_at, keeps_place, lessened, published, record_at, replied, withdrawn}
use Rattle.market.specs.Host.{Host, live, with_clock, with_token}
use Rattle.market.specs.declared.change.Change.TheVariants as change
use Rattle.matching.specs.Matching.{Walked, best_met, dealt, executed, is_dead, is_met, matched, meeting_quantity, placed, settled, unfilled_reply, walk, walked}
use Rattle.orders.specs.Orders.{accepted_as, accepted_reply, amended, answered, canceled_at, entered, full, judged, newcomer, numbered, reason_at, rejudged, replaced_at, replaced_reply, replacement}
use Rattle.law.specs.Runs.{Call, Day, load_row, load_book, load_account, begin, message, drop_account, event, state, reference, snapshot, collect, run, step, then}
use Rattle.law_copies.proofs.Steps.{each_same, plain_all, plain-announcement}
use Rattle.law_orders.proofs.Unmet.{rests_unmet, unmet_quantity}

-- the edits: an order is removed, has executed a part, rests, or is amended; a newcomer rests, and an order is amended,
-- only with something left and nothing to meet
pub record Stays (Q : List Record → Type 0) : Type 0 where
  pub removes : (xs : List Record) (k : ℕ) → Q xs → Q (remove xs k)
  pub lessens : (xs : List Record) (k q : ℕ) → q < (record_at k xs).left → Q xs → Q (set xs k (lessened q (record_at k xs)))
  pub rests : (xs : List Record) (n : Record) → 1 ≤ n.left → meeting_quantity n xs ≡ 0 → Q xs → Q (xs ++ n ∷ [])
  pub amends : (xs : List Record) (k : ℕ) (n : Record) → 1 ≤ n.left → meeting_quantity n xs ≡ 0 → Q xs → Q (set xs k n)

-- where nothing is met, nothing is once an order is removed
fewer_met : (n : Record) (xs : List Record) (k : ℕ) → meeting_quantity n (remove xs k) ≤ meeting_quantity n xs
fewer_met n [] zero = omega arith
fewer_met n [] (suc k) = omega arith
fewer_met n (x ∷ xs) zero = by (is_met n x)
  where
    by : (b : Bool) → meeting_quantity n xs ≤ cond b (x.left + meeting_quantity n xs) (meeting_quantity n xs)
    by true = omega arith
    by false = omega arith
fewer_met n (x ∷ xs) (suc k) = by (is_met n x) (fewer_met n xs k)
  where
    by :
        (b : Bool) → meeting_quantity n (remove xs k) ≤ meeting_quantity n xs →
        cond b (x.left + meeting_quantity n (remove xs k)) (meeting_quantity n (remove xs k)) ≤ cond b (x.left + meeting_quantity n xs) (meeting_quantity n xs)
    by true l = omega arith
    by false l = omega arith

some_left : (q : ℕ) → eqb q 0 ≡ false → 1 ≤ q
some_left q e = let some = eqb-false q 0 e in omega arith

module _ (Q : List Record → Type 0) (s : Stays Q) where
  abbrev Holds : Host → Type 0
  Holds h = Q h.orders

  -- ---- edits of the list

  stays_executed : (k q : ℕ) (xs : List Record) → Q xs → Q (executed_at k q xs)
  stays_executed k q xs p =
      cond_both (leb (record_at k xs).left q) (remove xs k) (set xs k (lessened q (record_at k xs))) Q
      (λ _. s.removes xs k p) (λ e. s.lessens xs k q (leb-false _ _ e) p)

  stays_appended : (room : ℕ) (xs : List Record) (n : Record) → 1 ≤ n.left → meeting_quantity n xs ≡ 0 → Q xs → Q (appended room xs n)
  stays_appended room xs n some unmet p = cond_both (ltb (length xs) room) (xs ++ n ∷ []) xs Q (λ _. s.rests xs n some unmet p) (λ _. p)

  stays_amended_at : (room k : ℕ) (n : Record) (xs : List Record) → 1 ≤ n.left → meeting_quantity n xs ≡ 0 → Q xs → Q (amended_at room k n xs)
  stays_amended_at room k n xs some unmet p =
      cond_both (keeps_place (record_at k xs) n) (set xs k n) (appended room (remove xs k) n) Q (λ _. s.amends xs k n some unmet p)
      (λ _. let fewer = fewer_met n xs k in stays_appended room (remove xs k) n some (omega arith) (s.removes xs k p))

  -- ---- a newcomer

  stays_walk : (fuel : ℕ) (h : Host) (t : ℕ) (n : Record) → Holds h → Holds (walk fuel h t n).host
  unfolding walk
  stays_walk zero h t n p = p
  stays_walk (suc fuel) h t n p =
      by (eqb n.left 0) (best_met h n) _ (λ k. stays_walk fuel (executed h t n k (record_at k h.orders)) t (lessened (dealt n (record_at k h.orders)) n))
    where
      by :
          (b : Bool) (o : Option ℕ) (next : ℕ → Walked) → ((k : ℕ) → Holds (executed h t n k (record_at k h.orders)) → Holds (next k).host) →
          Holds (cond b (walked h n) (elim o as (λ _. Walked) [ None ↦ walked h n | Some k ↦ next k ])).host
      by true o next ih = p
      by false None next ih = p
      by false (Some k) next ih = ih k (stays_executed k (dealt n (record_at k h.orders)) h.orders p)

  stays-settled :
      (w : Walked) (t : ℕ) (now : Bool) → (1 ≤ w.newcomer.left → meeting_quantity w.newcomer w.host.orders ≡ 0) →
      Holds w.host → Holds (settled w t now)
  stays-settled w t now unmet p =
      let n : Record = w.newcomer in
      let canceled : Host = replied w.host n.account (unfilled_reply t n) in
      let rested : Host = published w.host t (change.Rest n) in
      cond_both (eqb n.left 0) w.host (cond now canceled rested) Holds (λ _. p)
      (λ e. cond_both now canceled rested Holds (λ _. p)
      (λ _. let some = some_left n.left e in stays_appended w.host.room w.host.orders n some (unmet some) p))

  stays_placed : (h : Host) (t : ℕ) (n : Record) (force : ℕ) → Holds h → Holds (placed h t n force)
  stays_placed h t n force p =
      let w : Walked = matched h t n in
      stays-settled w t (immediate force) (λ some. unmet_quantity w.newcomer w.host.orders (rests_unmet h t n some)) (stays_walk (live h) h t n p)

  -- ---- a message

  stays_judged : (h : Host) (t account : ℕ) (m : EnterOrder) (o : Option RejectReason) → Holds h → Holds (judged h t account m o)
  stays_judged h t account m (Some r) p = p
  stays_judged h t account m None p = by (is_dead m.force m.display m.minimum (meeting_quantity (newcomer h account m) h.orders))
    where
      by : (dead : Bool) → Holds (accepted_as h t m (newcomer h account m) dead)
      by true = p
      by false = stays_placed (numbered h account (accepted_reply t m (newcomer h account m) false)) t (newcomer h account m) m.force p

  stays_entered : (h : Host) (t account : ℕ) (m : EnterOrder) → Holds h → Holds (entered h t account m)
  stays_entered h t account m p =
      let o : Option RejectReason = enter_reason h.phase h.rows h.books (full h) m in
      let i : Host = with_token h account m.token in
      cond_both (leb m.token (last_token account h.accounts)) h (judged i t account m o) Holds (λ _. p) (λ _. stays_judged i t account m o p)

  -- a dead order leaves the book; nothing meets one that is amended; any other comes back as a newcomer
  stays-amended :
      (h : Host) (t : ℕ) (m : Replace) (k : ℕ) (n : Record) (dead : Bool) → (dead ≡ false → 1 ≤ n.left) → Holds h →
      Holds (amended h t m k n dead (meeting_quantity n h.orders))
  stays-amended h t m k n dead some p =
      let meeting : ℕ = meeting_quantity n h.orders in
      let gone : Host = published h t (change.Withdraw k) in
      let same : Host = published h t (change.Amend k n) in
      let back : Host = placed gone t n m.force in
      let less : Holds gone = s.removes h.orders k p in
      cond_both dead gone (cond (eqb meeting 0) same back) Holds (λ _. less)
      (λ e. cond_both (eqb meeting 0) same back Holds (λ f. stays_amended_at h.room k n h.orders (some e) (eqb-true meeting 0 f) p)
      (λ _. stays_placed gone t n m.force less))

  stays_rejudged : (h : Host) (t : ℕ) (m : Replace) (k : ℕ) (o : Option CancelReason) → Holds h → Holds (rejudged h t m k o)
  stays_rejudged h t m k (Some r) p = s.removes h.orders k p
  stays_rejudged h t m k None p =
      let n : Record = replacement h (record_at k h.orders) m in
      let dead : Bool = eqb n.left 0 || is_dead m.force m.display m.minimum (meeting_quantity n h.orders) in
      stays-amended (numbered (with_token h n.account m.replacement) n.account (replaced_reply t m n dead)) t m k n dead
      (λ e. some_left n.left (or_parts (eqb n.left 0) _ e).0) p

  stays_replaced : (h : Host) (t account : ℕ) (m : Replace) (o : Option ℕ) → Holds h → Holds (replaced_at h t account m o)
  stays_replaced h t account m None p = p
  stays_replaced h t account m (Some k) p =
      let o : Option CancelReason = reason_at h m (record_at k h.orders) in
      cond_both (leb m.replacement (last_token account h.accounts)) h (rejudged h t m k o) Holds (λ _. p) (λ _. stays_rejudged h t m k o p)

  stays_canceled : (h : Host) (t : ℕ) (o : Option ℕ) → Holds h → Holds (canceled_at h t o)
  stays_canceled h t None p = p
  stays_canceled h t (Some k) p = s.removes h.orders k p

  pub stays_answered : (h : Host) (t account : ℕ) (m : Asked) → Holds h → Holds (answered h t account m)
  stays_answered h t account (enter m) p = stays_entered h t account m p
  stays_answered h t account (replace m) p = stays_replaced h t account m (found account m.existing h.orders) p
  stays_answered h t account (cancel m) p = stays_canceled h t (found account m.token h.orders) p

  -- ---- a drop

  stays_swept : (k : ℕ) (xs : List Record) (h : Host) (t account : ℕ) → Holds h → Holds (swept_from k xs h t account)
  unfolding swept_from
  stays_swept k [] h t account p = p
  stays_swept k (x ∷ xs) h t account p =
      cond_both (eqb x.account account) (swept_from k xs (withdrawn h t k cancels.LoggedOff) t account) (swept_from (k + 1) xs h t account) Holds
      (λ _. stays_swept k xs (withdrawn h t k cancels.LoggedOff) t account (s.removes h.orders k p)) (λ _. stays_swept (k + 1) xs h t account p)

  -- ---- the calls

  -- the same orders
  stays_same : (h i : Host) → i.orders ≡ h.orders → Holds h → Holds i
  stays_same h i e p = rw e p

  stays_informed : (h : Host) (t : ℕ) (o : Option DayEvent) → Holds h → Holds (informed h t o)
  stays_informed h t None p = p
  stays_informed h t (Some e) p =
      let r : Reply = reply.SystemEvent (record { time = t; event = e }) in
      stays_same h (replied_each (length h.accounts) h r) (each_same (length h.accounts) h r).1 p

  stays_happened : (h : Host) (t : ℕ) (o : Option Event) → Holds h → Holds (happened h t o)
  stays_happened h t None p = p
  stays_happened h t (Some e) p = stays_informed (published h t (change.Event e)) t (day_event e) p

  stays_stated : (h : Host) (t code : ℕ) (b : BookState) → Holds h → Holds (stated h t code b)
  stays_stated h t code b p = cond_both (same_state (book_or code h.books).state b) h (published h t (change.State code b)) Holds (λ _. p) (λ _. p)

  stays_decided : (h i : Host) (f : Option Fault) → Holds h → Holds i → Holds (decided h f i).after
  stays_decided h i (Some f) p q = p
  stays_decided h i None p q = q

  stays_read : (h : Host) (t account : ℕ) (r : Result Asked MessageFault) → Holds h → Holds (message_read h t account r).after
  stays_read h t account (Err f) p = p
  stays_read h t account (Ok m) p = stays_decided h (message_done h t account m) (message_fault h t account) p (stays_answered (with_clock h t) t account m p)

  stays_shot : (h : Host) (t : ℕ) (l : Meaning) (f : Option Fault) → Holds h → Holds (shot_unless h t l f).after
  stays_shot h t l (Some f) p = p
  stays_shot h t l None p = p

  pub stays_step : (h : Host) (c : Call) → Holds h → Holds (step h c).after
  unfolding step calls.load_row calls.load_book calls.load_account calls.begin calls.message calls.drop calls.event calls.state calls.reference calls.snapshot calls.collect
  stays_step h (load_row r) p = stays_decided h _ (calls.load_row_fault h r) p p
  stays_step h (load_book b) p = stays_decided h _ (calls.load_book_fault h b) p p
  stays_step h (load_account name) p = stays_decided h _ (calls.load_account_fault h name) p p
  stays_step h (begin t) p =
      stays_decided h (calls.begin_done h t) (calls.begin_fault h t) p
      (stays_same h (calls.begin_done h t) (plain_all (with_clock h t) t (announcement h) (plain-announcement h)).1 p)
  stays_step h (message t account bytes) p = stays_read h t account (inbound bytes) p
  stays_step h (drop_account t account) p =
      stays_decided h (calls.drop_done h t account) (calls.drop_fault h t account) p (stays_swept 0 h.orders (with_clock h t) t account p)
  stays_step h (event t letter) p =
      stays_decided h (calls.event_done h t letter) (calls.event_fault h t letter) p (stays_happened (with_clock h t) t (event_of letter) p)
  stays_step h (state t code letter) p = stays_decided h (calls.state_done h t code letter) _ p (stays_stated (with_clock h t) t code _ p)
  stays_step h (reference t code y) p = stays_decided h (calls.reference_done h t code y) _ p p
  stays_step h (snapshot t l) p = stays_shot h t l (snapshot_fault h t l) p
  stays_step h collect p = stays_decided h (calls.collect_done h) (calls.collect_fault h) p p

  pub stays_run : (d : Day) (cs : List Call) → Holds d.host → Holds (run d cs).host
  unfolding run
  stays_run d [] p = p
  stays_run d (c ∷ cs) p = stays_run (then d c) cs (stays_step d.host c p)
