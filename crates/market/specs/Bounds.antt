-- What a host keeps within, by the laws of its store, its lines and its tables.
use Rattle.std.specs.Prelude.{◌≡◌, ◌^◌, ◌≤◌, true, length}
use Rattle.line.specs.Meaning.{Meaning, places_of, all_carried}
use Rattle.market.specs.Host.{Host, live}
use Rattle.market.specs.declared.count.Counts.{Counts}

-- how many of each a host has
abbrev pub counts : Host → Counts
counts h = record { orders = live h; rows = length h.rows; books = length h.books; accounts = length h.accounts }

-- a line has 65535 places at most, 2^63 of its messages may be gone, and each that waits has 1 to 80 bytes
pub record LineBounds (m : Meaning) : Type 0 where
  pub places : places_of m ≤ 65535
  pub gone : m.gone ≤ 2 ^ 63
  pub carried : all_carried m.waiting ≡ true

pub record Bounds (h : Host) : Type 0 where
  -- the live orders fit the store
  pub orders : live h ≤ h.room
  pub room : h.room ≤ 4096
  pub feed : LineBounds h.feed
  pub replies : LineBounds h.replies
  -- what is loaded fits its tables
  pub rows : length h.rows ≤ 16
  pub books : length h.books ≤ 32
  pub accounts : length h.accounts ≤ 16
