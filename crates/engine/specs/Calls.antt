-- The calls. Each tests its refusals in order of their numbers; the first that applies is returned and leaves all
-- as it was. An accepted call answers how many messages it added to the feed and to the replies.
use Rattle.std.specs.Prelude.{ℕ, zero, suc, ◌+◌, ◌-◌, ◌*◌, ◌^◌, Bool, true, cond, not, ◌&&◌, ◌||◌, List, [], ◌∷◌, ◌++◌, map, length, ℤ, is_some, Some, None, Ok, Err, Option, Result, ◌==◌, nat_le, nat_lt}
use Rattle.std.specs.Option.{unwrap_or}
use Rattle.fields.specs.Letters.{event_of, event_byte, state_of}
use Rattle.fields.specs.declared.letters.BookState.{BookState}
use Rattle.fields.specs.declared.letters.BookState.TheVariants.{Suspended}
use Rattle.fields.specs.declared.letters.Event.{Event}
use Rattle.fields.specs.declared.letters.Event.TheVariants as events
use Rattle.itch.specs.Feed.{feed_bytes}
use Rattle.itch.specs.declared.feed.FeedMessage.{FeedMessage}
use Rattle.itch.specs.declared.feed.FeedMessage.TheVariants as tells
use Rattle.line.specs.Meaning.{Meaning, taken_all, collects, collected, next_number}
use Rattle.line.specs.declared.refusal.Refusal.TheVariants.{TooManyGone}
use Rattle.ouch.specs.Inbound.{Asked, inbound}
use Rattle.ouch.specs.declared.inbound.MessageFault.{MessageFault}
use Rattle.ouch.specs.declared.letters.DayEvent.{DayEvent}
use Rattle.ouch.specs.declared.letters.DayEvent.TheVariants.{StartOfDay, EndOfDay}
use Rattle.ouch.specs.declared.reply.Reply.{Reply}
use Rattle.ouch.specs.declared.reply.Reply.TheVariants as reply
use Rattle.rules.specs.Loading.{row_refused, book_refused, book_of, account_refused, account_of}
use Rattle.rules.specs.Phases.{step, is_loading, takes_messages, is_running, has_begun, is_done}
use Rattle.rules.specs.Tables.{book_under, book_or, same_state}
use Rattle.rules.specs.Tests.{test, first_of}
use Rattle.rules.specs.declared.fault.Fault.{Fault}
use Rattle.rules.specs.declared.fault.Fault.TheVariants as fault
use Rattle.rules.specs.declared.tables.Listing.{Listing}
use Rattle.rules.specs.declared.tables.TickRow.{TickRow}
use Rattle.market.specs.Changes.{told, published, published_all, replied, announcement, seconds_message, nanos_of}
use Rattle.market.specs.Host.{Host, live, with_feed, with_replies, with_clock, with_rows, with_books, with_accounts}
use Rattle.market.specs.declared.change.Change.{Change}
use Rattle.market.specs.declared.change.Change.TheVariants as change
use Rattle.orders.specs.Orders.{answered}
use Rattle.engine.specs.Sweep.{swept}

-- ---- outcomes

pub record Outcome : Type 0 where
  pub answer : Result (ℕ × ℕ) Fault
  pub after : Host

abbrev pub outcome : Result (ℕ × ℕ) Fault → Host → Outcome
outcome r h = record { answer = r; after = h }

-- how many messages a line has more than before
abbrev pub more : Meaning → Meaning → ℕ
more before after = length after.waiting - length before.waiting

-- a call that leads from one host to another, unless there is a reason to refuse it
abbrev pub decided : Host → Option Fault → Host → Outcome
decided h (Some f) after = outcome (Err f) h
decided h None after = outcome (Ok (more h.feed after.feed, more h.replies after.replies)) after

-- a value, unless there is a reason to refuse
abbrev pub unless : {X : Type 0} → Option Fault → X → Result X Fault
unless (Some f) x = Err f
unless None x = Ok x

-- what a test of a call answers
abbrev pub refused_if : Bool → Fault → Result (Unit {0}) Fault
refused_if applies f = cond applies (Err f) (Ok tt)

-- ---- the tests that several calls share

-- a day has 86,400 seconds
abbrev pub bad_time : ℕ → Bool
bad_time t = nat_le 86400000000000 t

abbrev pub early : Host → ℕ → Bool
early h t = nat_lt t h.clock

abbrev pub no_account : Host → ℕ → Bool
no_account h account = nat_le (length h.accounts) account

abbrev pub no_book : Host → ℕ → Bool
no_book h code = not (is_some (book_under code h.books))

-- a call may need a place on the feed for each live order and four besides, and two for replies and twenty besides
abbrev pub few_feed_places : Host → Bool
few_feed_places h = nat_lt h.feed.free (live h + 4)

abbrev pub few_reply_places : Host → Bool
few_reply_places h = nat_lt h.replies.free (2 * live h + 20)

-- ---- load: a tick row, a book, an account

abbrev pub load_row_fault : Host → TickRow → Option Fault
load_row_fault h r = first_of
    (test (not (is_loading h.phase)) fault.Phase
    ∷ test (row_refused h.rows r) fault.Load
    ∷ [])

unfoldable pub load_row : Host → TickRow → Outcome
load_row h r = decided h (load_row_fault h r) (with_rows h (h.rows ++ (r ∷ [])))

abbrev pub load_book_fault : Host → Listing → Option Fault
load_book_fault h b = first_of
    (test (not (is_loading h.phase)) fault.Phase
    ∷ test (book_refused h.rows h.books b) fault.Load
    ∷ [])

unfoldable pub load_book : Host → Listing → Outcome
load_book h b = decided h (load_book_fault h b) (with_books h (h.books ++ (book_of b ∷ [])))

abbrev pub load_account_fault : Host → List ℕ → Option Fault
load_account_fault h name = first_of
    (test (not (is_loading h.phase)) fault.Phase
    ∷ test (account_refused h.accounts name) fault.Load
    ∷ [])

unfoldable pub load_account : Host → List ℕ → Outcome
load_account h name = decided h (load_account_fault h name) (with_accounts h (h.accounts ++ (account_of name ∷ [])))

-- ---- begin: the feed tells what is loaded

abbrev pub begin_fault : Host → ℕ → Option Fault
begin_fault h t = first_of
    (test (bad_time t) fault.Time
    ∷ test (early h t) fault.Clock
    ∷ test (not (is_loading h.phase)) fault.Phase
    ∷ test (nat_lt h.feed.free (2 + length h.rows + 3 * length h.books)) fault.FeedPlaces
    ∷ [])

abbrev pub begin_done : Host → ℕ → Host
begin_done h t = published_all (with_clock h t) t (announcement h)

unfoldable pub begin : Host → ℕ → Outcome
begin h t = decided h (begin_fault h t) (begin_done h t)

-- ---- message: what the bytes ask is asked of the message layer first

-- the next order or match number is above 2^63
abbrev pub spent : Host → Bool
spent h = nat_lt (2 ^ 63) h.next_order || nat_lt (2 ^ 63) h.next_match

abbrev pub message_fault : Host → ℕ → ℕ → Option Fault
message_fault h t account = first_of
    (test (bad_time t) fault.Time
    ∷ test (no_account h account) fault.Account
    ∷ test (early h t) fault.Clock
    ∷ test (not (takes_messages h.phase)) fault.Phase
    ∷ test (spent h) fault.Numbers
    ∷ test (few_feed_places h) fault.FeedPlaces
    ∷ test (few_reply_places h) fault.ReplyPlaces
    ∷ [])

abbrev pub message_done : Host → ℕ → ℕ → Asked → Host
message_done h t account m = answered (with_clock h t) t account m

abbrev pub message_read : Host → ℕ → ℕ → Result Asked MessageFault → Outcome
message_read h t account (Err f) = outcome (Err (fault.Message f)) h
message_read h t account (Ok m) = decided h (message_fault h t account) (message_done h t account m)

unfoldable pub message : Host → ℕ → ℕ → List ℕ → Outcome
message h t account bytes = message_read h t account (inbound bytes)

-- ---- drop: an account is gone, and its orders with it

abbrev pub drop_fault : Host → ℕ → ℕ → Option Fault
drop_fault h t account = first_of
    (test (bad_time t) fault.Time
    ∷ test (no_account h account) fault.Account
    ∷ test (early h t) fault.Clock
    ∷ test (not (is_running h.phase)) fault.Phase
    ∷ test (few_feed_places h) fault.FeedPlaces
    ∷ test (few_reply_places h) fault.ReplyPlaces
    ∷ [])

abbrev pub drop_done : Host → ℕ → ℕ → Host
drop_done h t account = swept (with_clock h t) t account

unfoldable pub drop : Host → ℕ → ℕ → Outcome
drop h t account = decided h (drop_fault h t account) (drop_done h t account)

-- ---- event

-- the start and the end of system hours are told to the accounts too
abbrev pub day_event : Event → Option DayEvent
day_event events.StartOfMessages = None
day_event events.StartOfSystemHours = Some StartOfDay
day_event events.StartOfMarketHours = None
day_event events.EndOfMarketHours = None
day_event events.EndOfSystemHours = Some EndOfDay
day_event events.EndOfMessages = None

-- a reply to each of the first n accounts, in turn
unfoldable pub replied_each : ℕ → Host → Reply → Host
replied_each zero h r = h
replied_each (suc n) h r = replied (replied_each n h r) n r

abbrev pub informed : Host → ℕ → Option DayEvent → Host
informed h t None = h
informed h t (Some e) = replied_each (length h.accounts) h (reply.SystemEvent (record { time = t; event = e }))

abbrev pub happened : Host → ℕ → Option Event → Host
happened h t None = h
happened h t (Some e) = informed (published h t (change.Event e)) t (day_event e)

-- system hours cannot end while an order is live
abbrev pub event_fault : Host → ℕ → ℕ → Option Fault
event_fault h t letter = first_of
    (test (bad_time t) fault.Time
    ∷ test (early h t) fault.Clock
    ∷ test (not (is_running h.phase && is_some (step h.phase letter))) fault.Phase
    ∷ test (letter == event_byte events.EndOfSystemHours && nat_lt 0 (live h)) fault.LiveOrders
    ∷ test (few_feed_places h) fault.FeedPlaces
    ∷ test (few_reply_places h) fault.ReplyPlaces
    ∷ [])

abbrev pub event_done : Host → ℕ → ℕ → Host
event_done h t letter = happened (with_clock h t) t (event_of letter)

unfoldable pub event : Host → ℕ → ℕ → Outcome
event h t letter = decided h (event_fault h t letter) (event_done h t letter)

-- ---- state and reference

abbrev pub book_fault : Host → ℕ → ℕ → Bool → Option Fault
book_fault h t code allowed = first_of
    (test (bad_time t) fault.Time
    ∷ test (early h t) fault.Clock
    ∷ test (not (is_running h.phase && allowed)) fault.Phase
    ∷ test (no_book h code) fault.Book
    ∷ test (few_feed_places h) fault.FeedPlaces
    ∷ [])

-- the feed tells a state only where it changes
abbrev pub stated : Host → ℕ → ℕ → BookState → Host
stated h t code s = cond (same_state (book_or code h.books).state s) h (published h t (change.State code s))

abbrev pub state_done : Host → ℕ → ℕ → ℕ → Host
state_done h t code letter = stated (with_clock h t) t code (unwrap_or (state_of letter) Suspended)

unfoldable pub state : Host → ℕ → ℕ → ℕ → Outcome
state h t code letter = decided h (book_fault h t code (is_some (state_of letter))) (state_done h t code letter)

-- a reference yield is told also where it is the same
abbrev pub reference_done : Host → ℕ → ℕ → ℤ → Host
reference_done h t code y = published (with_clock h t) t (change.Reference code y)

unfoldable pub reference : Host → ℕ → ℕ → ℤ → Outcome
reference h t code y = decided h (book_fault h t code true) (reference_done h t code y)

-- ---- snapshot: onto a line of the caller's. The definition stands here for the law; its code is still to come.

abbrev pub last_event : Host → List Change
last_event h = cond (is_done h.phase) (change.Event events.EndOfMessages ∷ []) []

-- what a snapshot tells: what begin told, as it now is, each live order, and the last event if it was sent
abbrev pub standing : Host → List Change
standing h = announcement h ++ (map change.Rest h.orders ++ last_event h)

-- the second first, and last the number of the next feed message
abbrev pub snapshot_messages : Host → ℕ → List FeedMessage
snapshot_messages h t =
    seconds_message t
    ∷ map (told h.orders (nanos_of t)) (standing h)
    ++ (tells.EndOfSnapshot (record { sequence = next_number h.feed }) ∷ [])

abbrev pub snapshot_fault : Host → ℕ → Meaning → Option Fault
snapshot_fault h t l = first_of
    (test (bad_time t) fault.Time
    ∷ test (early h t) fault.Clock
    ∷ test (not (has_begun h.phase)) fault.Phase
    ∷ test (nat_lt l.free (length (snapshot_messages h t))) fault.FeedPlaces
    ∷ [])

pub record Shot : Type 0 where
  pub answer : Result (ℕ × ℕ) Fault
  pub after : Host
  pub line : Meaning

abbrev pub shot : Result (ℕ × ℕ) Fault → Host → Meaning → Shot
shot r h l = record { answer = r; after = h; line = l }

-- it answers the count of its messages and the number that it named
abbrev pub shot_unless : Host → ℕ → Meaning → Option Fault → Shot
shot_unless h t l (Some f) = shot (Err f) h l
shot_unless h t l None =
    shot (Ok (length (snapshot_messages h t), next_number h.feed)) (with_clock h t) (taken_all l (map feed_bytes (snapshot_messages h t)))

unfoldable pub snapshot : Host → ℕ → Meaning → Shot
snapshot h t l = shot_unless h t l (snapshot_fault h t l)

-- ---- collect: both lines, or neither

abbrev pub collect_fault : Host → Option Fault
collect_fault h = first_of (test (not (collects h.feed && collects h.replies)) (fault.Line TooManyGone) ∷ [])

abbrev pub collect_done : Host → Host
collect_done h = with_replies (with_feed h (collected h.feed) h.second) (collected h.replies)

unfoldable pub collect : Host → Outcome
collect h = decided h (collect_fault h) (collect_done h)
