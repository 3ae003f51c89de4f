-- Every change that members can see goes one way: it is made, and the feed tells it.
use Rattle.std.specs.Prelude.{ℕ, ◌+◌, ◌-◌, ◌/◌, ◌%◌, min, Bool, false, cond, ◌&&◌, List, [], ◌∷◌, ◌++◌, map, pos, Some, None, Option, ◌==◌, nat_le, slice_set}
use Rattle.std.specs.List.{remove, slice_get}
use Rattle.std.specs.Option.{unwrap_or}
use Rattle.fields.specs.Letters.{event_byte}
use Rattle.fields.specs.Texts.{blank, djgb}
use Rattle.fields.specs.declared.letters.BookState.TheVariants.{Trading}
use Rattle.fields.specs.declared.letters.Event.{Event}
use Rattle.fields.specs.declared.letters.Event.TheVariants as events
use Rattle.fields.specs.declared.letters.Side.TheVariants.{Buy}
use Rattle.itch.specs.Feed.{feed_bytes}
use Rattle.itch.specs.Mark.{side_mark}
use Rattle.itch.specs.declared.feed.FeedMessage.{FeedMessage}
use Rattle.itch.specs.declared.feed.FeedMessage.TheVariants as tells
use Rattle.itch.specs.declared.mark.Mark.TheVariants.{Blank}
use Rattle.line.specs.Meaning.{taken}
use Rattle.ouch.specs.Reply.{addressed}
use Rattle.ouch.specs.declared.letters.CancelReason.{CancelReason}
use Rattle.ouch.specs.declared.reply.Reply.{Reply}
use Rattle.ouch.specs.declared.reply.Reply.TheVariants as reply
use Rattle.store.specs.Records.{appended}
use Rattle.store.specs.declared.record.Record.{Record}
use Rattle.rules.specs.Phases.{step}
use Rattle.rules.specs.Tables.{state_set, reference_set, suspended}
use Rattle.rules.specs.Ticks.{int_same}
use Rattle.rules.specs.declared.tables.Book.{Book}
use Rattle.market.specs.Host.{Host, with_orders, with_feed, with_replies, with_phase, with_books}
use Rattle.market.specs.declared.change.Change.{Change}
use Rattle.market.specs.declared.change.Change.TheVariants as change

-- ---- one order

-- what stands in for a record past the end of the list
abbrev pub no_record : Record
no_record = record { number = 0; account = 0; token = 0; side = Buy; book = 0; rate = pos 0; left = 0; executed = 0 }

abbrev pub record_at : ℕ → List Record → Record
record_at k xs = unwrap_or (slice_get xs k) no_record

-- an order after an execution; the quantity executed stays at the most that its field can hold
abbrev pub lessened : ℕ → Record → Record
lessened q x = record x { left = x.left - q; executed = min (x.executed + q) 4294967295 }

-- the order at k executes q, and is gone where nothing is left of it
abbrev pub executed_at : ℕ → ℕ → List Record → List Record
executed_at k q xs = cond (nat_le (record_at k xs).left q) (remove xs k) (slice_set xs k (lessened q (record_at k xs)))

-- a replaced order keeps its place if its yield is equal and its quantity no greater
abbrev pub keeps_place : Record → Record → Bool
keeps_place old new = int_same new.rate old.rate && nat_le new.left old.left

-- x takes the place of the order at k, or goes to the end
abbrev pub amended_at : ℕ → ℕ → Record → List Record → List Record
amended_at room k x xs = cond (keeps_place (record_at k xs) x) (slice_set xs k x) (appended room (remove xs k) x)

-- ---- what a change does

abbrev pub changed : Host → Change → Host
changed h (change.Event e) = with_phase h (unwrap_or (step h.phase (event_byte e)) h.phase)
changed h (change.Tick r) = h
changed h (change.Directory b) = h
changed h (change.State code s) = with_books h (state_set code s h.books)
changed h (change.Reference code y) = with_books h (reference_set code y h.books)
changed h (change.Rest x) = with_orders h (appended h.room h.orders x)
changed h (change.Execute k q matched) = with_orders h (executed_at k q h.orders)
changed h (change.Withdraw k) = with_orders h (remove h.orders k)
changed h (change.Amend k x) = with_orders h (amended_at h.room k x h.orders)

-- ---- how a change is told

-- the first and the last event of the day are the whole system's; the others are the bond market's
abbrev pub event_group : Event → List ℕ
event_group events.StartOfMessages = blank
event_group events.StartOfSystemHours = djgb
event_group events.StartOfMarketHours = djgb
event_group events.EndOfMarketHours = djgb
event_group events.EndOfSystemHours = djgb
event_group events.EndOfMessages = blank

-- the message that tells a change, with the nanoseconds of its second; xs is the list of orders before the change
abbrev pub told : List Record → ℕ → Change → FeedMessage
told xs nanos (change.Event e) = tells.Event (record { nanos = nanos; group = event_group e; event = e })
told xs nanos (change.Tick r) = tells.Tick (record { nanos = nanos; table = r.table; size = r.size; start = r.start })
told xs nanos (change.Directory b) =
    tells.Directory (record { nanos = nanos; code = b.code; isin = b.isin; group = djgb; lot = b.lot; table = b.table; decimals = 3; upper = b.upper; lower = b.lower })
told xs nanos (change.State code s) = tells.State (record { nanos = nanos; code = code; group = djgb; state = s })
told xs nanos (change.Reference code y) =
    tells.Added (record { nanos = nanos; number = 0; mark = Blank; quantity = 0; code = code; group = djgb; price = y })
told xs nanos (change.Rest x) =
    tells.Added (record { nanos = nanos; number = x.number; mark = side_mark x.side; quantity = x.left; code = x.book; group = djgb; price = x.rate })
told xs nanos (change.Execute k q matched) =
    tells.Executed (record { nanos = nanos; number = (record_at k xs).number; quantity = q; matched = matched })
told xs nanos (change.Withdraw k) = tells.Deleted (record { nanos = nanos; number = (record_at k xs).number })
told xs nanos (change.Amend k x) =
    tells.Replaced (record { nanos = nanos; original = (record_at k xs).number; number = x.number; quantity = x.left; price = x.rate })

-- ---- publishing

-- a time is nanoseconds past midnight
abbrev pub second_of : ℕ → ℕ
second_of t = t / 1000000000

abbrev pub nanos_of : ℕ → ℕ
nanos_of t = t % 1000000000

abbrev pub seconds_message : ℕ → FeedMessage
seconds_message t = tells.Seconds (record { seconds = second_of t })

abbrev pub is_second : Option ℕ → ℕ → Bool
is_second None s = false
is_second (Some r) s = r == s

-- the feed has told the second of a time
abbrev pub timed : Host → ℕ → Host
timed h t =
    with_feed h (cond (is_second h.second (second_of t)) h.feed (taken h.feed (feed_bytes (seconds_message t)))) (Some (second_of t))

-- a message on the feed, behind the second where that is new
abbrev pub fed : Host → ℕ → FeedMessage → Host
fed h t m = with_feed (timed h t) (taken (timed h t).feed (feed_bytes m)) (timed h t).second

-- a change is told and made
abbrev pub published : Host → ℕ → Change → Host
published h t c = changed (fed h t (told h.orders (nanos_of t) c)) c

abbrev pub published_all : Host → ℕ → List Change → Host
published_all h t [] = h
published_all h t (c ∷ cs) = published_all (published h t c) t cs

-- ---- replies

-- a reply to an account, behind a byte with the account's number
abbrev pub replied : Host → ℕ → Reply → Host
replied h account r = with_replies h (taken h.replies (addressed account r))

-- ---- an order leaves the book

abbrev pub canceled_reply : ℕ → Record → CancelReason → Reply
canceled_reply t x r = reply.Canceled (record { time = t; token = x.token; quantity = x.left; reason = r })

-- the order at place k is canceled with all that is left of it
abbrev pub withdrawn : Host → ℕ → ℕ → CancelReason → Host
withdrawn h t k r =
    published (replied h (record_at k h.orders).account (canceled_reply t (record_at k h.orders) r)) t (change.Withdraw k)

-- ---- what the feed tells at the start of the day, and what a snapshot tells of it later

abbrev pub trading_only : List Book → List Change
trading_only [] = []
trading_only (b ∷ bs) = cond (suspended b) (trading_only bs) (change.State b.code Trading ∷ trading_only bs)

-- the start of messages, the tick rows, the books, their reference yields, and the state of each book that trades
abbrev pub announcement : Host → List Change
announcement h =
    change.Event events.StartOfMessages
    ∷ map change.Tick h.rows
    ++ (map change.Directory h.books
    ++ (map (λ (b : Book). change.Reference b.code b.reference) h.books
    ++ trading_only h.books))
