-- What a message and a drop do to accounts and orders.
use Rattle.std.proofs.Common.{◌≡◌, ℕ, ◌+◌, ◌<◌, Bool, true, false, cond, ◌||◌, eqb, leb, List, [], ◌∷◌, length, Some, None, Option, refl, arith}
use Rattle.std.proofs.lemmas.Bool.{leb-false}
use Rattle.ouch.specs.Inbound.{Asked, EnterOrder, cancel, enter, replace}
use Rattle.ouch.specs.declared.inbound.Replace.{Replace}
use Rattle.ouch.specs.declared.letters.CancelReason.{CancelReason}
use Rattle.ouch.specs.declared.letters.CancelReason.TheVariants as cancels
use Rattle.ouch.specs.declared.letters.RejectReason.{RejectReason}
use Rattle.store.specs.Records.{found}
use Rattle.store.specs.declared.record.Record.{Record}
use Rattle.rules.specs.Reasons.{enter_reason}
use Rattle.rules.specs.Tables.{last_token}
use Rattle.market.specs.Changes.{no_record, published, record_at}
use Rattle.market.specs.Host.{Host, with_token}
use Rattle.matching.specs.Matching.{is_dead, meeting_quantity, placed}
use Rattle.market.specs.Changes.{withdrawn}
use Rattle.orders.specs.Orders.{accepted_as, accepted_reply, amended, answered, canceled_at, entered, full, granted, granted_as, judged, newcomer, numbered, reason_at, rejudged, replaced, replaced_at, replaced_reply, replacement}
use Rattle.engine.specs.Sweep.{swept, swept_from}
use Rattle.market.specs.declared.change.Change.TheVariants as change
use Rattle.law_copies.proofs.Found.{found_finds, named_parts}
use Rattle.law_copies.proofs.Keys.{thins_removed, thins_then}
use Rattle.law_copies.proofs.Tokens.{Goes, Grow, goes-adds, goes_thins, used_grow, used_last}
use Rattle.law_copies.proofs.Walks.{Brings, Leaves, adds-amended, brings_after, brings_either, brings_none, brings_placed, leaves_self}

abbrev pub Moves : Host → Host → Type 0
Moves h i = Goes h.accounts h.orders i.accounts i.orders

same_grow : (h i : Host) → i.accounts ≡ h.accounts → Grow h.accounts i.accounts
same_grow h i e b = rw e (omega arith)

moves_leaves : (h i : Host) → Leaves h i → Moves h i
moves_leaves h i f = goes_thins _ _ _ _ (same_grow h i f.0) f.1

pub moves_self : (h : Host) → Moves h h
moves_self h = moves_leaves h h (leaves_self h)

-- what is ignored changes nothing
pub moves_unless : (h i : Host) (ignored : Bool) → (ignored ≡ false → Moves h i) → Moves h (cond ignored h i)
moves_unless h i true f = moves_self h
moves_unless h i false f = f refl

-- an account that is loaded uses a token above its last, and with it comes at most one order
moves_brings : (h i : Host) (a t : ℕ) → a < length h.accounts → last_token a h.accounts < t → Brings a t (with_token h a t) i → Moves h i
moves_brings h i a t l m f =
    goes-adds _ _ _ _ a t (rw f.0 (used_grow h.accounts a t l m)) m (rw (f.0, used_last h.accounts a t l) (omega arith)) f.1

-- ---- Enter

brings_accepted : (h : Host) (t : ℕ) (m : EnterOrder) (n : Record) (dead : Bool) → Brings n.account n.token h (accepted_as h t m n dead)
brings_accepted h t m n true = brings_none _ _ h h (leaves_self h)
brings_accepted h t m n false = brings_placed (numbered h n.account (accepted_reply t m n false)) t n m.force

pub brings_judged : (h : Host) (t account : ℕ) (m : EnterOrder) (r : Option RejectReason) → Brings account m.token h (judged h t account m r)
brings_judged h t account m (Some r) = brings_none _ _ h h (leaves_self h)
brings_judged h t account m None =
    let n : Record = newcomer h account m in
    brings_accepted h t m n (is_dead m.force m.display m.minimum (meeting_quantity n h.orders))

moves_entered : (h : Host) (t account : ℕ) (m : EnterOrder) → account < length h.accounts → Moves h (entered h t account m)
moves_entered h t account m l =
    let i : Host = with_token h account m.token in
    let r : Option RejectReason = enter_reason h.phase h.rows h.books (full h) m in
    moves_unless h (judged i t account m r) (leb m.token (last_token account h.accounts))
    (λ e. moves_brings h (judged i t account m r) account m.token l (leb-false _ _ e) (brings_judged i t account m r))

-- ---- an order leaves the book

leaves_withdrawn : (h : Host) (t k : ℕ) (r : CancelReason) → Leaves h (withdrawn h t k r)
leaves_withdrawn h t k r = (refl, thins_removed h.orders k)

-- ---- Replace

module _ (h : Host) (t : ℕ) (m : Replace) (k : ℕ) where
  abbrev gone : Host
  gone = published h t (change.Withdraw k)

  brings_amended : (n : Record) (dead : Bool) (meeting : ℕ) → Brings n.account n.token h (amended h t m k n dead meeting)
  brings_amended n dead meeting =
      let same : Host = published h t (change.Amend k n) in
      let back : Host = placed gone t n m.force in
      let left = thins_removed h.orders k in
      brings_either _ _ h gone (cond (eqb meeting 0) same back) dead (brings_none n.account n.token h gone (refl, left))
      (brings_either _ _ h same back (eqb meeting 0) (refl, adds-amended h.room k n h.orders)
      (brings_after _ _ h gone back (refl, left) (brings_placed gone t n m.force)))

-- the account uses the new token
pub brings-granted :
    (h : Host) (t : ℕ) (m : Replace) (k : ℕ) (x : Record) (meeting : ℕ) (dead : Bool) →
    Brings x.account m.replacement (with_token h x.account m.replacement) (granted_as h t m k (replacement h x m) meeting dead)
brings-granted h t m k x meeting dead =
    let n : Record = replacement h x m in
    brings_amended (numbered (with_token h x.account m.replacement) x.account (replaced_reply t m n dead)) t m k n dead meeting

moves-rejudged :
    (h : Host) (t : ℕ) (m : Replace) (k : ℕ) (r : Option CancelReason) → (record_at k h.orders).account < length h.accounts →
    last_token (record_at k h.orders).account h.accounts < m.replacement → Moves h (rejudged h t m k r)
moves-rejudged h t m k (Some r) l g = moves_leaves h (withdrawn h t k r) (leaves_withdrawn h t k r)
moves-rejudged h t m k None l g =
    let x : Record = record_at k h.orders in
    let n : Record = replacement h x m in
    let meeting : ℕ = meeting_quantity n h.orders in
    moves_brings h (granted h t m k n meeting) x.account m.replacement l g
    (brings-granted h t m k x meeting (eqb n.left 0 || is_dead m.force m.display m.minimum meeting))

moves_replaced : (h : Host) (t account : ℕ) (m : Replace) → account < length h.accounts → Moves h (replaced h t account m)
moves_replaced h t account m l = by (found account m.existing h.orders) refl
  where
    by : (o : Option ℕ) → found account m.existing h.orders ≡ o → Moves h (replaced_at h t account m o)
    by None e = moves_self h
    by (Some k) e =
        let x : Record = record_at k h.orders in
        let own = named_parts account m.existing x ((found_finds account m.existing h.orders k e).named no_record) in
        moves_unless h (rejudged h t m k (reason_at h m x)) (leb m.replacement (last_token account h.accounts))
        (λ f. moves-rejudged h t m k (reason_at h m x) (rw own.0 l) (rw own.0 (leb-false _ _ f)))

-- ---- Cancel

moves_canceled : (h : Host) (t : ℕ) (o : Option ℕ) → Moves h (canceled_at h t o)
moves_canceled h t None = moves_self h
moves_canceled h t (Some k) = moves_leaves h (withdrawn h t k cancels.User) (leaves_withdrawn h t k cancels.User)

-- ---- a message

pub moves_answered : (h : Host) (t account : ℕ) (m : Asked) → account < length h.accounts → Moves h (answered h t account m)
moves_answered h t account (enter m) l = moves_entered h t account m l
moves_answered h t account (replace m) l = moves_replaced h t account m l
moves_answered h t account (cancel m) l = moves_canceled h t (found account m.token h.orders)

-- ---- a drop

leaves_swept : (k : ℕ) (xs : List Record) (h : Host) (t account : ℕ) → Leaves h (swept_from k xs h t account)
unfolding swept_from
leaves_swept k [] h t account = leaves_self h
leaves_swept k (x ∷ xs) h t account =
    let less : Host = withdrawn h t k cancels.LoggedOff in
    by (eqb x.account account) (swept_from k xs less t account) (swept_from (k + 1) xs h t account) (leaves_swept k xs less t account) (leaves_swept (k + 1) xs h t account)
  where
    by : (b : Bool) (i j : Host) → Leaves (withdrawn h t k cancels.LoggedOff) i → Leaves h j → Leaves h (cond b i j)
    by true i j f g = (f.0, thins_then _ _ _ (thins_removed h.orders k) f.1)
    by false i j f g = g

pub moves_swept : (h : Host) (t account : ℕ) → Moves h (swept h t account)
moves_swept h t account = moves_leaves h (swept h t account) (leaves_swept 0 h.orders h t account)
