-- What an engine holds, by the meanings of its parts.
use Rattle.std.specs.Prelude.{ℕ, ◌^◌, Bool, cond, ◌&&◌, List, [], length, None, Ok, Err, Option, Result, ◌==◌, nat_le}
use Rattle.line.specs.Meaning.{Meaning}
use Rattle.line.specs.declared.refusal.Refusal.{Refusal}
use Rattle.line.specs.declared.refusal.Refusal.TheVariants.{Parts}
use Rattle.store.specs.declared.record.Record.{Record}
use Rattle.rules.specs.Tables.{token_used}
use Rattle.rules.specs.declared.phase.Phase.{Phase}
use Rattle.rules.specs.declared.phase.Phase.TheVariants.{Loading}
use Rattle.rules.specs.declared.tables.Account.{Account}
use Rattle.rules.specs.declared.tables.Book.{Book}
use Rattle.rules.specs.declared.tables.TickRow.{TickRow}

pub record Host : Type 0 where
  -- the live orders, oldest priority first, and how many the store can hold
  pub orders : List Record
  pub room : ℕ
  -- the two lines
  pub feed : Meaning
  pub replies : Meaning
  pub phase : Phase
  -- the time of the last accepted call that has one, and the second that the feed told last
  pub clock : ℕ
  pub second : Option ℕ
  -- what is loaded
  pub rows : List TickRow
  pub books : List Book
  pub accounts : List Account
  -- the numbers of the next order and the next match
  pub next_order : ℕ
  pub next_match : ℕ

-- what a caller sees of a market: what it holds, and the two lines, whose layouts are their own
pub record Held (L : Type 0) : Type 0 where
  pub host : Host
  pub feed : L
  pub replies : L

-- an engine that was just made
abbrev pub made : ℕ → Meaning → Meaning → ℕ → ℕ → Host
made room feed replies first_order first_match = record {
  orders = [];
  room = room;
  feed = feed;
  replies = replies;
  phase = Loading;
  clock = 0;
  second = None;
  rows = [];
  books = [];
  accounts = [];
  next_order = first_order;
  next_match = first_match;
}

-- whether an engine can be made: the store is empty, the lines are fresh with nothing gone, and the first numbers are
-- from 1 to 2^63
abbrev pub fresh_line : Meaning → Bool
fresh_line l = length l.waiting == 0 && l.gone == 0

abbrev pub first_number : ℕ → Bool
first_number n = nat_le 1 n && nat_le n (2 ^ 63)

abbrev pub parts_fit : List Record → Meaning → Meaning → ℕ → ℕ → Bool
parts_fit orders feed replies first_order first_match =
    (length orders == 0) && (fresh_line feed && (fresh_line replies && (first_number first_order && first_number first_match)))

abbrev pub parts_answer : List Record → Meaning → Meaning → ℕ → ℕ → Result (Unit {0}) Refusal
parts_answer orders feed replies first_order first_match = cond (parts_fit orders feed replies first_order first_match) (Ok tt) (Err Parts)

-- ---- the same host with another value in one place

abbrev pub with_orders : Host → List Record → Host
with_orders h x = record h { orders = x }

abbrev pub with_feed : Host → Meaning → Option ℕ → Host
with_feed h x s = record h { feed = x; second = s }

abbrev pub with_replies : Host → Meaning → Host
with_replies h x = record h { replies = x }

abbrev pub with_phase : Host → Phase → Host
with_phase h x = record h { phase = x }

abbrev pub with_clock : Host → ℕ → Host
with_clock h x = record h { clock = x }

abbrev pub with_rows : Host → List TickRow → Host
with_rows h x = record h { rows = x }

abbrev pub with_books : Host → List Book → Host
with_books h x = record h { books = x }

abbrev pub with_accounts : Host → List Account → Host
with_accounts h x = record h { accounts = x }

abbrev pub with_next_order : Host → ℕ → Host
with_next_order h x = record h { next_order = x }

abbrev pub with_next_match : Host → ℕ → Host
with_next_match h x = record h { next_match = x }

-- one account has used a token
abbrev pub with_token : Host → ℕ → ℕ → Host
with_token h account token = with_accounts h (token_used account token h.accounts)

-- how many orders are live
abbrev pub live : Host → ℕ
live h = length h.orders
