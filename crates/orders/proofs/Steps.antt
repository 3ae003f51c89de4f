-- The steps of an answer, one behind the other.
use Rattle.std.proofs.Common.{◌≡◌, ℕ, Bool, false, cond, ◌||◌, eqb, leb, None, Option, sym, ap, ◌∙◌}
use Rattle.ouch.specs.Inbound.{EnterOrder}
use Rattle.ouch.specs.declared.inbound.Replace.{Replace}
use Rattle.ouch.specs.declared.letters.CancelReason.{CancelReason}
use Rattle.ouch.specs.declared.letters.RejectReason.{RejectReason}
use Rattle.ouch.specs.declared.reply.Reply.{Reply}
use Rattle.store.specs.declared.record.Record.{Record}
use Rattle.rules.specs.Reasons.{enter_reason}
use Rattle.rules.specs.Tables.{last_token}
use Rattle.market.specs.Changes.{record_at}
use Rattle.market.specs.Host.{Host, with_token}
use Rattle.matching.specs.Matching.{is_dead, meeting_quantity}
use Rattle.orders.specs.Orders.{full, newcomer, accepted, judged, entered, numbered, replacement, replaced_reply, amended, granted_as, granted, rejudged}

-- an Enter that no reason forbids is accepted, once its token is used
pub entered_none : (h h1 after : Host) (t account : ℕ) (m : EnterOrder) (n : Record) (reason : Option RejectReason)
    → leb m.token (last_token account h.accounts) ≡ false
    → reason ≡ enter_reason h.phase h.rows h.books (full h) m
    → reason ≡ None
    → h1 ≡ with_token h account m.token
    → n ≡ newcomer h1 account m
    → after ≡ accepted h1 t m n
    → after ≡ entered h t account m
entered_none h h1 after t account m n reason above judges none used is done =
    done
    ∙ ap (accepted h1 t m) is
    ∙ ap (λ (i : Host). accepted i t m (newcomer i account m)) used
    ∙ ap (judged (with_token h account m.token) t account m) (sym none ∙ judges)
    ∙ sym (ap (λ b. cond b h (judged (with_token h account m.token) t account m (enter_reason h.phase h.rows h.books (full h) m))) above)

-- a Replace is granted: the token is used, the account is told, and the order is amended
pub granted-by : (h h1 h2 h3 : Host) (t : ℕ) (m : Replace) (k : ℕ) (n : Record) (meeting met : ℕ) (dead : Bool) (r : Reply)
    → met ≡ meeting
    → dead ≡ (eqb n.left 0 || is_dead m.force m.display m.minimum met)
    → r ≡ replaced_reply t m n dead
    → h1 ≡ with_token h n.account m.replacement
    → h2 ≡ numbered h1 n.account r
    → h3 ≡ amended h2 t m k n dead met
    → h3 ≡ granted h t m k n meeting
granted-by h h1 h2 h3 t m k n meeting met dead r same dies says used told done =
    done
    ∙ ap (λ (i : Host). amended i t m k n dead met) (told ∙ ap (λ (i : Host). numbered i n.account r) used ∙ ap (numbered (with_token h n.account m.replacement) n.account) says)
    ∙ ap (granted_as h t m k n met) dies
    ∙ ap (granted h t m k n) same

-- a Replace that no reason forbids is granted
pub rejudged_none : (h after : Host) (t : ℕ) (m : Replace) (k : ℕ) (n : Record) (reason : Option CancelReason)
    → reason ≡ None
    → n ≡ replacement h (record_at k h.orders) m
    → after ≡ granted h t m k n (meeting_quantity n h.orders)
    → after ≡ rejudged h t m k reason
rejudged_none h after t m k n reason none is done =
    done ∙ ap (λ (x : Record). granted h t m k x (meeting_quantity x h.orders)) is ∙ ap (rejudged h t m k) (sym none)
