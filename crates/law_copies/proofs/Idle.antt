-- A message that was answered with a reply asks nothing more.
use Rattle.std.proofs.Common.{◌≡◌, ℕ, ◌<◌, ◌≤◌, Bool, true, false, cond, ◌||◌, eqb, leb, ◌⊎◌, List, length, Some, None, Option, refl, ap, inl, inr, arith}
use Rattle.std.specs.List.{remove}
use Rattle.std.proofs.lemmas.Bool.{cond-true, le-leb}
use Rattle.line.specs.Meaning.{Meaning}
use Rattle.ouch.specs.Inbound.{Asked, EnterOrder, cancel, enter, replace}
use Rattle.ouch.specs.declared.inbound.Cancel.{Cancel}
use Rattle.ouch.specs.declared.inbound.Replace.{Replace}
use Rattle.ouch.specs.declared.letters.CancelReason.{CancelReason}
use Rattle.ouch.specs.declared.letters.RejectReason.{RejectReason}
use Rattle.store.specs.Records.{found}
use Rattle.store.specs.declared.record.Record.{Record}
use Rattle.rules.specs.Reasons.{enter_reason}
use Rattle.rules.specs.Tables.{last_token}
use Rattle.rules.specs.declared.tables.Account.{Account}
use Rattle.engine.specs.Calls.{more}
use Rattle.market.specs.Changes.{no_record, record_at}
use Rattle.market.specs.Host.{Host, with_token}
use Rattle.matching.specs.Matching.{is_dead, meeting_quantity}
use Rattle.orders.specs.Orders.{answered, canceled_at, entered, full, judged, reason_at, rejudged, replaced_at, replacement}
use Rattle.law_copies.proofs.Found.{Finds, Unnamed, all_at, found_finds, found_none, named_parts}
use Rattle.law_copies.proofs.Keys.{Of}
use Rattle.law_copies.proofs.Moves.{brings-granted, brings_judged}
use Rattle.law_copies.proofs.Tokens.{Goes, Past, Sound, used_last}

-- a token was used, and its order is gone
pub record Spent (a t : ℕ) (us : List Account) (xs : List Record) : Type 0 where
  pub past : Past us a t
  pub unnamed : Unnamed a t xs

-- the message is ignored
abbrev pub Idle : ℕ → Asked → List Account → List Record → Type 0
Idle a (enter m) us xs = Past us a m.token
Idle a (replace m) us xs = Past us a m.replacement ⊎ Spent a m.existing us xs
Idle a (cancel m) us xs = Spent a m.token us xs

-- ---- it stays so

module _ (us vs : List Account) (xs ys : List Record) (g : Goes us xs vs ys) (a : ℕ) where
  past_later : (t : ℕ) → Past us a t → Past vs a t
  past_later t p = let x = g.grow a in omega arith

  spent_later : (t : ℕ) → Spent a t us xs → Spent a t vs ys
  spent_later t s = record { past = past_later t s.past; unnamed = g.unnamed a t s.past s.unnamed }

  pub idle_later : (m : Asked) → Idle a m us xs → Idle a m vs ys
  idle_later (enter m) p = past_later m.token p
  idle_later (replace m) (inl p) = inl (past_later m.replacement p)
  idle_later (replace m) (inr s) = inr (spent_later m.existing s)
  idle_later (cancel m) s = spent_later m.token s

-- ---- it changes nothing

module _ (h : Host) (t a : ℕ) where
  pub replaced_past : (m : Replace) (o : Option ℕ) → Past h.accounts a m.replacement → replaced_at h t a m o ≡ h
  replaced_past m None p = refl
  replaced_past m (Some k) p = cond-true _ _ _ (le-leb _ _ p)

  pub idle_answered : (m : Asked) → Idle a m h.accounts h.orders → answered h t a m ≡ h
  idle_answered (enter m) p = cond-true _ _ _ (le-leb _ _ p)
  idle_answered (replace m) (inl p) = replaced_past m (found a m.existing h.orders) p
  idle_answered (replace m) (inr s) = ap (replaced_at h t a m) (found_none a m.existing 0 h.orders s.unnamed)
  idle_answered (cancel m) s = ap (canceled_at h t) (found_none a m.token 0 h.orders s.unnamed)

-- ---- a reply makes it so

-- what is ignored adds no reply
silent : (l : Meaning) → 1 ≤ more l l → ⊥
silent l r = omega arith

-- so that a reply says that it was not ignored
unless_ignored : (Q : Host → Type 0) (h i : Host) (ignored : Bool) → 1 ≤ more h.replies (cond ignored h i).replies → Q i → Q (cond ignored h i)
unless_ignored Q h i true r q = absurd (silent h.replies r)
unless_ignored Q h i false r q = q

-- the order that a token finds leaves the list
spent_removed : (us : List Account) (xs : List Record) (a t k : ℕ) → Sound us xs → Finds a t xs k → Spent a t us (remove xs k)
spent_removed us xs a t k s f =
    let own = named_parts a t (record_at k xs) (f.named no_record) in
    let past = all_at (Of (Past us)) xs k no_record f.within s.past in
    record { past = rw (own.0, own.1) at past; unnamed = f.only s.apart }

module _ (h : Host) (t a : ℕ) (l : a < length h.accounts) (s : Sound h.accounts h.orders) where
  abbrev After : Asked → Host → Type 0
  After m i = Idle a m i.accounts i.orders

  idle_entered : (m : EnterOrder) → 1 ≤ more h.replies (entered h t a m).replies → After (enter m) (entered h t a m)
  idle_entered m r =
      let i : Host = with_token h a m.token in
      let o : Option RejectReason = enter_reason h.phase h.rows h.books (full h) m in
      unless_ignored (After (enter m)) h (judged i t a m o) (leb m.token (last_token a h.accounts)) r
      (rw ((brings_judged i t a m o).0, used_last h.accounts a m.token l) (omega arith))

  -- the order leaves the list for a reason, or the new token is used
  idle_rejudged : (m : Replace) (k : ℕ) (o : Option CancelReason) → Finds a m.existing h.orders k → After (replace m) (rejudged h t m k o)
  idle_rejudged m k (Some r) f = inr (spent_removed h.accounts h.orders a m.existing k s f)
  idle_rejudged m k None f =
      let x : Record = record_at k h.orders in
      let n : Record = replacement h x m in
      let meeting : ℕ = meeting_quantity n h.orders in
      let own = named_parts a m.existing x (f.named no_record) in
      let used = (brings-granted h t m k x meeting (eqb n.left 0 || is_dead m.force m.display m.minimum meeting)).0 in
      inl (rw (used, own.0, used_last h.accounts a m.replacement l) (omega arith))

  idle-replaced :
      (m : Replace) (o : Option ℕ) → found a m.existing h.orders ≡ o → 1 ≤ more h.replies (replaced_at h t a m o).replies →
      After (replace m) (replaced_at h t a m o)
  idle-replaced m None e r = absurd (silent h.replies r)
  idle-replaced m (Some k) e r =
      let o : Option CancelReason = reason_at h m (record_at k h.orders) in
      unless_ignored (After (replace m)) h (rejudged h t m k o) (leb m.replacement (last_token a h.accounts)) r
      (idle_rejudged m k o (found_finds a m.existing h.orders k e))

  idle-canceled :
      (m : Cancel) (o : Option ℕ) → found a m.token h.orders ≡ o → 1 ≤ more h.replies (canceled_at h t o).replies →
      After (cancel m) (canceled_at h t o)
  idle-canceled m None e r = absurd (silent h.replies r)
  idle-canceled m (Some k) e r = spent_removed h.accounts h.orders a m.token k s (found_finds a m.token h.orders k e)

  pub idle_after : (m : Asked) → 1 ≤ more h.replies (answered h t a m).replies → Idle a m (answered h t a m).accounts (answered h t a m).orders
  idle_after (enter m) r = idle_entered m r
  idle_after (replace m) r = idle-replaced m (found a m.existing h.orders) refl r
  idle_after (cancel m) r = idle-canceled m (found a m.token h.orders) refl r
