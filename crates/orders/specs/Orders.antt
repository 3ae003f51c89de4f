-- What an accepted message does: Enter, Replace, Cancel.
use Rattle.std.specs.Prelude.{ℕ, ◌+◌, Bool, cond, ◌||◌, Some, None, Option, ◌==◌, nat_le}
use Rattle.std.specs.Option.{unwrap_or}
use Rattle.fields.specs.Letters.{side_of}
use Rattle.fields.specs.Texts.{djgb}
use Rattle.fields.specs.declared.letters.Side.TheVariants.{Buy}
use Rattle.ouch.specs.Inbound.{EnterOrder, Asked, enter, replace, cancel}
use Rattle.ouch.specs.declared.inbound.Replace.{Replace}
use Rattle.ouch.specs.declared.inbound.Cancel.{Cancel}
use Rattle.ouch.specs.declared.letters.CancelReason.{CancelReason}
use Rattle.ouch.specs.declared.letters.CancelReason.TheVariants as cancels
use Rattle.ouch.specs.declared.letters.OrderState.{OrderState}
use Rattle.ouch.specs.declared.letters.OrderState.TheVariants.{Live, Dead}
use Rattle.ouch.specs.declared.letters.RejectReason.{RejectReason}
use Rattle.ouch.specs.declared.reply.Reply.{Reply}
use Rattle.ouch.specs.declared.reply.Reply.TheVariants as reply
use Rattle.store.specs.Records.{found}
use Rattle.store.specs.declared.record.Record.{Record}
use Rattle.rules.specs.Reasons.{enter_reason, replace_reason, balance}
use Rattle.rules.specs.Tables.{book_or, last_token}
use Rattle.market.specs.Changes.{record_at, published, replied, withdrawn}
use Rattle.market.specs.Host.{Host, live, with_next_order, with_token}
use Rattle.matching.specs.Matching.{is_dead, meeting_quantity, placed}
use Rattle.market.specs.declared.change.Change.TheVariants as change

abbrev pub dead_or : Bool → OrderState
dead_or dead = cond dead Dead Live

-- a reply that takes the next order number
abbrev pub numbered : Host → ℕ → Reply → Host
numbered h account r = with_next_order (replied h account r) (h.next_order + 1)

-- ---- Enter

-- the order that an Enter asks for
abbrev pub newcomer : Host → ℕ → EnterOrder → Record
newcomer h account m = record {
  number = h.next_order;
  account = account;
  token = m.token;
  side = unwrap_or (side_of m.side) Buy;
  book = m.code;
  rate = m.price;
  left = m.quantity;
  executed = 0;
}

-- what was entered, said back, with the order's number and state
abbrev pub accepted_reply : ℕ → EnterOrder → Record → Bool → Reply
accepted_reply t m n dead = reply.Accepted (record {
  time = t;
  token = m.token;
  reference = m.reference;
  side = n.side;
  quantity = m.quantity;
  code = m.code;
  group = m.group;
  price = m.price;
  force = m.force;
  firm = m.firm;
  display = m.display;
  capacity = m.capacity;
  number = n.number;
  minimum = m.minimum;
  state = dead_or dead;
  classification = m.classification;
  margin = m.margin;
})

abbrev pub rejected_reply : ℕ → EnterOrder → RejectReason → Reply
rejected_reply t m r = reply.Rejected (record { time = t; token = m.token; reason = r })

-- a dead order is only answered; a live one enters the book
abbrev pub accepted_as : Host → ℕ → EnterOrder → Record → Bool → Host
accepted_as h t m n dead =
    cond dead (numbered h n.account (accepted_reply t m n dead))
    (placed (numbered h n.account (accepted_reply t m n dead)) t n m.force)

abbrev pub accepted : Host → ℕ → EnterOrder → Record → Host
accepted h t m n = accepted_as h t m n (is_dead m.force m.display m.minimum (meeting_quantity n h.orders))

abbrev pub judged : Host → ℕ → ℕ → EnterOrder → Option RejectReason → Host
judged h t account m (Some r) = replied h account (rejected_reply t m r)
judged h t account m None = accepted h t m (newcomer h account m)

abbrev pub full : Host → Bool
full h = nat_le h.room (live h)

-- a token that is not above the account's last is ignored; any other becomes the last, also where the order is rejected
abbrev pub entered : Host → ℕ → ℕ → EnterOrder → Host
entered h t account m =
    cond (nat_le m.token (last_token account h.accounts)) h
    (judged (with_token h account m.token) t account m (enter_reason h.phase h.rows h.books (full h) m))

-- ---- Replace

-- the order that a Replace makes of x: it keeps side, book and what it has executed
abbrev pub replacement : Host → Record → Replace → Record
replacement h x m = record x { number = h.next_order; token = m.replacement; rate = m.price; left = balance x.executed m }

abbrev pub replaced_reply : ℕ → Replace → Record → Bool → Reply
replaced_reply t m n dead = reply.Replaced (record {
  time = t;
  token = m.replacement;
  side = n.side;
  quantity = n.left;
  code = n.book;
  group = djgb;
  price = m.price;
  force = m.force;
  display = m.display;
  number = n.number;
  minimum = m.minimum;
  state = dead_or dead;
  previous = m.existing;
})

-- Dead: the order leaves the book. Nothing meets: it is amended. Else it leaves the book and comes back as a newcomer.
abbrev pub amended : Host → ℕ → Replace → ℕ → Record → Bool → ℕ → Host
amended h t m k n dead meeting =
    cond dead (published h t (change.Withdraw k))
    (cond (meeting == 0) (published h t (change.Amend k n)) (placed (published h t (change.Withdraw k)) t n m.force))

abbrev pub granted_as : Host → ℕ → Replace → ℕ → Record → ℕ → Bool → Host
granted_as h t m k n meeting dead =
    amended (numbered (with_token h n.account m.replacement) n.account (replaced_reply t m n dead)) t m k n dead meeting

abbrev pub granted : Host → ℕ → Replace → ℕ → Record → ℕ → Host
granted h t m k n meeting = granted_as h t m k n meeting (n.left == 0 || is_dead m.force m.display m.minimum meeting)

abbrev pub rejudged : Host → ℕ → Replace → ℕ → Option CancelReason → Host
rejudged h t m k (Some r) = withdrawn h t k r
rejudged h t m k None =
    granted h t m k (replacement h (record_at k h.orders) m) (meeting_quantity (replacement h (record_at k h.orders) m) h.orders)

abbrev pub reason_at : Host → Replace → Record → Option CancelReason
reason_at h m x = replace_reason h.phase h.rows (book_or x.book h.books) x.executed m

-- ignored if the existing token is not live or the new one is not above the account's last
abbrev pub replaced_at : Host → ℕ → ℕ → Replace → Option ℕ → Host
replaced_at h t account m None = h
replaced_at h t account m (Some k) =
    cond (nat_le m.replacement (last_token account h.accounts)) h (rejudged h t m k (reason_at h m (record_at k h.orders)))

abbrev pub replaced : Host → ℕ → ℕ → Replace → Host
replaced h t account m = replaced_at h t account m (found account m.existing h.orders)

-- ---- Cancel

abbrev pub canceled_at : Host → ℕ → Option ℕ → Host
canceled_at h t None = h
canceled_at h t (Some k) = withdrawn h t k cancels.User

abbrev pub canceled : Host → ℕ → ℕ → Cancel → Host
canceled h t account m = canceled_at h t (found account m.token h.orders)

-- ---- a message

abbrev pub answered : Host → ℕ → ℕ → Asked → Host
answered h t account (enter m) = entered h t account m
answered h t account (replace m) = replaced h t account m
answered h t account (cancel m) = canceled h t account m
