-- The law over whole runs: what a listener holds, that no book crosses, and what a second copy changes.
use Rattle.std.specs.Prelude.{◌≡◌, ℕ, ◌+◌, ◌-◌, ◌*◌, ◌/◌, ◌≤◌, Bool, true, false, cond, ◌&&◌, List, [], ◌∷◌, ◌++◌, map, length, take, drop, IsSomeAnd, Some, Ok, Err, Result, ◌==◌, int_le, slice_index_or}
use Rattle.std.specs.Option.{unwrap_or}
use Rattle.std.specs.List.{AllByRecursion}
use Rattle.fields.specs.Letters.{event_byte, state_of}
use Rattle.fields.specs.Texts.{djgb}
use Rattle.fields.specs.declared.letters.BookState.TheVariants.{Suspended}
use Rattle.fields.specs.declared.letters.Event.TheVariants as events
use Rattle.fields.specs.declared.letters.Side.{Side}
use Rattle.fields.specs.declared.letters.Side.TheVariants.{Buy, Sell}
use Rattle.itch.specs.Feed.{feed_read}
use Rattle.itch.specs.declared.feed.FeedMessage.{FeedMessage}
use Rattle.itch.specs.declared.feed.FeedMessage.TheVariants as tells
use Rattle.rules.specs.Register.{adjusted}
use Rattle.rules.specs.declared.fault.Fault.{Fault}
use Rattle.rules.specs.declared.tables.Listing.{Listing}
use Rattle.store.specs.declared.record.Record.{Record}
use Rattle.engine.specs.Calls.{Shot}
use Rattle.market.specs.Host.{Host, with_clock}
use Rattle.law.specs.Listener.{Board, Listener, ShownBook, ShownOrder, blank_board, nothing, with_start, with_end, with_rows, with_books, with_orders, is_shown, book_state, book_reference, hear, hears}
use Rattle.law.specs.Runs.{Call, load_row, load_book, load_account, begin, message, drop_account, event, state, reference, snapshot, collect, FitsCall, Day, Sent, Snapshot, Start, FitsStart, run, start, step, then}

-- ---- what the accepted calls say of the market

abbrev pub loaded_book : Listing → ShownBook
loaded_book b = record {
  code = b.code;
  isin = b.isin;
  group = djgb;
  lot = b.lot;
  table = b.table;
  decimals = 3;
  upper = b.upper;
  lower = b.lower;
  state = unwrap_or (state_of b.state) Suspended;
  reference = b.reference;
}

-- the rows and books of the loads in load order, each book with its last state and reference; the flags once begin and
-- the last event were accepted
abbrev pub noted : Board → Call → Board
noted b (load_row r) = with_rows b (b.rows ++ (r ∷ []))
noted b (load_book l) = with_books b (b.books ++ (loaded_book l ∷ []))
noted b (load_account name) = b
noted b (begin t) = with_start b
noted b (message t account bytes) = b
noted b (drop_account t account) = b
noted b (event t letter) = cond (letter == event_byte events.EndOfMessages) (with_end b) b
noted b (state t code letter) = with_books b (adjusted (is_shown code djgb) (book_state (unwrap_or (state_of letter) Suspended)) b.books)
noted b (reference t code y) = with_books b (adjusted (is_shown code djgb) (book_reference y) b.books)
noted b (snapshot t l) = b
noted b collect = b

unfoldable pub noted_all : Board → List Call → Board
noted_all b [] = b
noted_all b (c ∷ cs) = noted_all (noted b c) cs

-- a live order, less account, token and what it has executed
abbrev pub shown : Record → ShownOrder
shown x = record { number = x.number; side = x.side; book = x.book; rate = x.rate; left = x.left }

-- what a listener is to hold after a run: what the accepted calls say, and the store's list in its order
abbrev pub truth : Day → Board
truth d = with_orders (noted_all blank_board d.accepted) (map shown d.host.orders)

-- ---- a listener of the whole feed

abbrev pub wire : List Sent → List (List ℕ)
wire ms = map (λ (m : Sent). m.bytes) ms

-- once begin was accepted, it holds the truth
abbrev pub HearsTruth : Day → Type 0
HearsTruth d = (truth d).started ≡ true → (hears nothing (wire d.feed)).board ≡ truth d

-- and it reads each message with the time of its call: its second and the message's nanoseconds, or of a Seconds message
-- the second
abbrev pub At : Listener → ℕ → ℕ → Type 0
At l t nanos = IsSomeAnd l.second (λ s. s * 1000000000 + nanos ≡ t)

abbrev pub ReadAt : Listener → ℕ → FeedMessage → Type 0
ReadAt l t (tells.Seconds m) = m.seconds ≡ t / 1000000000
ReadAt l t (tells.Event m) = At l t m.nanos
ReadAt l t (tells.Tick m) = At l t m.nanos
ReadAt l t (tells.Directory m) = At l t m.nanos
ReadAt l t (tells.State m) = At l t m.nanos
ReadAt l t (tells.Added m) = At l t m.nanos
ReadAt l t (tells.Executed m) = At l t m.nanos
ReadAt l t (tells.Deleted m) = At l t m.nanos
ReadAt l t (tells.Replaced m) = At l t m.nanos
ReadAt l t (tells.EndOfSnapshot m) = ⊥

unfoldable pub Timed : Listener → List Sent → Type 0
Timed l [] = Unit {0}
Timed l (m ∷ ms) = IsSomeAnd (feed_read m.bytes) (ReadAt l m.time) × Timed (hear l m.bytes) ms

abbrev pub HearsTimes : Day → Type 0
HearsTimes d = Timed nothing d.feed

-- ---- a listener that starts from a snapshot and goes on with the feed from the number that it named

abbrev pub joined : Snapshot → Listener
joined s = hears nothing s.messages

abbrev pub onward : Day → Snapshot → List Sent
onward d s = drop (s.number - 1) d.feed

pub record Joins (d : Day) (s : Snapshot) : Type 0 where
  -- the answer counts the snapshot's messages
  pub counted : s.count ≡ length s.messages
  -- the number is that of the next feed message, and the last message says it
  pub next : s.number ≡ s.before + 1
  pub says : feed_read (slice_index_or s.messages (s.count - 1) []) ≡ Some (tells.EndOfSnapshot (record { sequence = s.number }))
  -- from there on the listener holds the truth, and reads each feed message with the time of its call
  pub truly : (hears (joined s) (wire (onward d s))).board ≡ truth d
  pub times : Timed (joined s) (onward d s)

abbrev pub AllJoin : Day → Type 0
AllJoin d = AllByRecursion (Joins d) d.snapshots

-- ---- after any message of the whole feed no book crosses

abbrev pub facing : Side → Side → Bool
facing Buy Buy = false
facing Buy Sell = true
facing Sell Buy = false
facing Sell Sell = false

-- x is a buy at or below the sell y, in one book
abbrev pub crosses : ShownOrder → ShownOrder → Bool
crosses x y = x.book == y.book && (facing x.side y.side && int_le x.rate y.rate)

abbrev pub Uncrossed : List ShownOrder → Type 0
Uncrossed xs = AllByRecursion (λ x. AllByRecursion (λ y. crosses x y ≡ false) xs) xs

abbrev pub NeverCrosses : Day → Type 0
NeverCrosses d = (k : ℕ) → Uncrossed (hears nothing (wire (take k d.feed))).board.orders

-- ---- every run

abbrev pub EveryRun : (Day → Type 0) → Type 0
EveryRun P = (s : Start) → FitsStart s → (cs : List Call) → AllByRecursion FitsCall cs → P (run (start s) cs)

-- ---- second copies

-- a message was accepted, and its answer counted a reply
abbrev pub Replied : Result (ℕ × ℕ) Fault → Type 0
Replied (Ok n) = 1 ≤ n.1
Replied (Err f) = ⊥

-- a copy at a time is refused and changes nothing, or is accepted, adds no message, and changes nothing but the clock
abbrev pub ChangesNothing : Host → ℕ → Shot → Result (ℕ × ℕ) Fault → Type 0
ChangesNothing h t s (Ok n) = (n ≡ (0, 0)) × (s.after ≡ with_clock h t)
ChangesNothing h t s (Err f) = s.after ≡ h

abbrev pub Copied : Host → ℕ → Shot → Type 0
Copied h t s = ChangesNothing h t s s.answer

-- before, the message, then between, and the copy, with the same account and bytes, at any time
abbrev pub CopiesChangeNothing : Type 0
CopiesChangeNothing =
    (s : Start) → FitsStart s → (before between : List Call) → AllByRecursion FitsCall before → AllByRecursion FitsCall between →
    (t u account : ℕ) (bytes : List ℕ) → FitsCall (message t account bytes) → FitsCall (message u account bytes) →
    Replied (step (run (start s) before).host (message t account bytes)).answer →
    let h : Host = (run (then (run (start s) before) (message t account bytes)) between).host in
    Copied h u (step h (message u account bytes))

-- ---- the law, whole

pub record TheLaw : Type 0 where
  pub truth-heard : EveryRun HearsTruth
  pub times_heard : EveryRun HearsTimes
  pub snapshots_join : EveryRun AllJoin
  pub never_crossed : EveryRun NeverCrosses
  pub copies_change_nothing : CopiesChangeNothing
