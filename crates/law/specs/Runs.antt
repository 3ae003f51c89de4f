-- A run: any list of calls on an engine that was just made, refused calls counted.
use Rattle.std.specs.Prelude.{◌≡◌, ℕ, ◌+◌, ◌^◌, ◌<◌, ◌≤◌, cond, List, [], ◌∷◌, ◌++◌, map, length, drop, ℤ, is_ok, Ok, Err, Result, FitsSigned}
use Rattle.std.specs.Int.{w32}
use Rattle.std.specs.Int.Digits.{AllBelowBase}
use Rattle.line.specs.Meaning.{Meaning, fresh}
use Rattle.rules.specs.declared.fault.Fault.{Fault}
use Rattle.rules.specs.declared.tables.Listing.{Listing}
use Rattle.rules.specs.declared.tables.TickRow.{TickRow}
use Rattle.engine.specs.Calls as calls
use Rattle.engine.specs.Calls.{Outcome, Shot, shot}
use Rattle.market.specs.Host.{Host, made}

-- ---- calls

-- The nine calls; load has three kinds, and a snapshot is handed what its line means.
pub data Call : Type 0 where
  load_row : TickRow → Call
  load_book : Listing → Call
  load_account : (name : List ℕ) → Call
  begin : (time : ℕ) → Call
  message : (time account : ℕ) (bytes : List ℕ) → Call
  drop_account : (time account : ℕ) → Call
  event : (time letter : ℕ) → Call
  state : (time code letter : ℕ) → Call
  reference : (time code : ℕ) (rate : ℤ) → Call
  snapshot : (time : ℕ) (line : Meaning) → Call
  collect : Call

-- each number is in the range of its type, and each byte is one
abbrev pub Bytes : ℕ → List ℕ → Type 0
Bytes n b = (length b ≡ n) × AllBelowBase 256 b

abbrev pub FitsRow : TickRow → Type 0
FitsRow r = (r.table < 2 ^ 32) × (r.size < 2 ^ 32) × FitsSigned w32 r.start

abbrev pub FitsBook : Listing → Type 0
FitsBook b =
    (b.code < 2 ^ 32) × Bytes 12 b.isin × (b.lot < 2 ^ 32) × (b.table < 2 ^ 32)
    × FitsSigned w32 b.upper × FitsSigned w32 b.lower × (b.state < 256) × FitsSigned w32 b.reference

-- what holds of every line
abbrev pub FitsLine : Meaning → Type 0
FitsLine l = (l.gone ≤ 2 ^ 63) × (length l.waiting + l.free ≤ 65535)

abbrev pub FitsCall : Call → Type 0
FitsCall (load_row r) = FitsRow r
FitsCall (load_book b) = FitsBook b
FitsCall (load_account name) = Bytes 12 name
FitsCall (begin t) = t < 2 ^ 64
FitsCall (message t account bytes) = (t < 2 ^ 64) × (account < 256) × AllBelowBase 256 bytes
FitsCall (drop_account t account) = (t < 2 ^ 64) × (account < 256)
FitsCall (event t letter) = (t < 2 ^ 64) × (letter < 256)
FitsCall (state t code letter) = (t < 2 ^ 64) × (code < 2 ^ 32) × (letter < 256)
FitsCall (reference t code y) = (t < 2 ^ 64) × (code < 2 ^ 32) × FitsSigned w32 y
FitsCall (snapshot t l) = (t < 2 ^ 64) × FitsLine l
FitsCall collect = Unit {0}

-- ---- one step

-- only a snapshot has a line of its own
abbrev pub no_line : Meaning
no_line = fresh 0 0

abbrev pub line_before : Call → Meaning
line_before (load_row r) = no_line
line_before (load_book b) = no_line
line_before (load_account name) = no_line
line_before (begin t) = no_line
line_before (message t account bytes) = no_line
line_before (drop_account t account) = no_line
line_before (event t letter) = no_line
line_before (state t code letter) = no_line
line_before (reference t code y) = no_line
line_before (snapshot t l) = l
line_before collect = no_line

abbrev pub lineless : Outcome → Shot
lineless o = shot o.answer o.after no_line

unfoldable pub step : Host → Call → Shot
step h (load_row r) = lineless (calls.load_row h r)
step h (load_book b) = lineless (calls.load_book h b)
step h (load_account name) = lineless (calls.load_account h name)
step h (begin t) = lineless (calls.begin h t)
step h (message t account bytes) = lineless (calls.message h t account bytes)
step h (drop_account t account) = lineless (calls.drop h t account)
step h (event t letter) = lineless (calls.event h t letter)
step h (state t code letter) = lineless (calls.state h t code letter)
step h (reference t code y) = lineless (calls.reference h t code y)
step h (snapshot t l) = calls.snapshot h t l
step h collect = lineless (calls.collect h)

-- ---- what a run leaves behind

-- the time of a call; a load and a collect have none, and send nothing
abbrev pub time_of : Call → ℕ
time_of (load_row r) = 0
time_of (load_book b) = 0
time_of (load_account name) = 0
time_of (begin t) = t
time_of (message t account bytes) = t
time_of (drop_account t account) = t
time_of (event t letter) = t
time_of (state t code letter) = t
time_of (reference t code y) = t
time_of (snapshot t l) = t
time_of collect = 0

-- a feed message, and the time of the call that sent it
pub record Sent : Type 0 where
  pub time : ℕ
  pub bytes : List ℕ

-- what one accepted snapshot added to its line, what it answered, and how many feed messages there were before it
pub record Snapshot : Type 0 where
  pub messages : List (List ℕ)
  pub count : ℕ
  pub number : ℕ
  pub before : ℕ

-- the host, every message that its two lines took since it was made, collected or not, the snapshots, and the accepted
-- calls
pub record Day : Type 0 where
  pub host : Host
  pub feed : List Sent
  pub replies : List (List ℕ)
  pub snapshots : List Snapshot
  pub accepted : List Call

-- the messages that a line has more than before; a collect adds none
abbrev pub added : Meaning → Meaning → List (List ℕ)
added before after = drop (length before.waiting) after.waiting

abbrev pub sent : ℕ → List (List ℕ) → List Sent
sent t ms = map (λ m. record { time = t; bytes = m }) ms

abbrev pub taken : Day → Call → Shot → Result (ℕ × ℕ) Fault → List Snapshot
taken d (load_row r) s (Ok n) = []
taken d (load_book b) s (Ok n) = []
taken d (load_account name) s (Ok n) = []
taken d (begin t) s (Ok n) = []
taken d (message t account bytes) s (Ok n) = []
taken d (drop_account t account) s (Ok n) = []
taken d (event t letter) s (Ok n) = []
taken d (state t code letter) s (Ok n) = []
taken d (reference t code y) s (Ok n) = []
taken d (snapshot t l) s (Ok n) = record { messages = added l s.line; count = n.0; number = n.1; before = length d.feed } ∷ []
taken d collect s (Ok n) = []
taken d c s (Err f) = []

abbrev pub day_after : Day → Call → Shot → Day
day_after d c s = record {
  host = s.after;
  feed = d.feed ++ sent (time_of c) (added d.host.feed s.after.feed);
  replies = d.replies ++ added d.host.replies s.after.replies;
  snapshots = d.snapshots ++ taken d c s s.answer;
  accepted = d.accepted ++ cond (is_ok s.answer) (c ∷ []) [];
}

abbrev pub then : Day → Call → Day
then d c = day_after d c (step d.host c)

unfoldable pub run : Day → List Call → Day
run d [] = d
run d (c ∷ cs) = run (then d c) cs

-- ---- where a run starts

-- the store's capacity, the free places of the two lines, and the first numbers
pub record Start : Type 0 where
  pub capacity : ℕ
  pub feed_places : ℕ
  pub reply_places : ℕ
  pub first_order : ℕ
  pub first_match : ℕ

abbrev pub FitsStart : Start → Type 0
FitsStart s =
    (s.capacity ≤ 4096) × (s.feed_places ≤ 65535) × (s.reply_places ≤ 65535)
    × (1 ≤ s.first_order) × (s.first_order ≤ 2 ^ 63) × (1 ≤ s.first_match) × (s.first_match ≤ 2 ^ 63)

abbrev pub start : Start → Day
start s = record {
  host = made s.capacity (fresh s.feed_places 0) (fresh s.reply_places 0) s.first_order s.first_match;
  feed = [];
  replies = [];
  snapshots = [];
  accepted = [];
}
