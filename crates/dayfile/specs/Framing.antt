-- How a file falls into records.
use Rattle.std.specs.Prelude.{◌≡◌, ℕ, ◌<◌, ◌≤◌, List, ◌∷◌, ◌++◌, length, take, Ok, Err, ◌≢◌}
use Rattle.std.specs.Int.Digits.{AllBelowBase}
use Rattle.fields.specs.Be.{be}
use Rattle.fields.specs.Layout.{Row, Fits, write, ◌&◌}
use Rattle.rules.specs.declared.fault.FileFault.TheVariants.{Truncated}
use Rattle.dayfile.specs.Records.{tag_byte, kinds, value_length, wanted, record_read}
use Rattle.dayfile.specs.declared.command.Command.{Command}
use Rattle.dayfile.specs.declared.command.Command.TheVariants as command
use Rattle.dayfile.specs.declared.command.Tag.{Tag}
use Rattle.dayfile.specs.declared.command.Tag.TheVariants as tag

-- ---- the bytes that a record wants

pub record Framed (b : List ℕ) : Type 0 where
  -- a record is cut short exactly where fewer bytes are there than it wants
  pub short : length b < wanted b → record_read b ≡ Err Truncated
  pub whole : wanted b ≤ length b → record_read b ≢ Err Truncated
  -- it is read from these bytes alone, whatever follows
  pub alone : record_read (take (wanted b) b) ≡ record_read b
  -- with further bytes it wants no fewer, and no more once it has what it wants
  pub grows : (more : List ℕ) → wanted b ≤ wanted (b ++ more)
  pub settled : (more : List ℕ) → wanted b ≤ length b → wanted (b ++ more) ≡ wanted b

-- ---- the bytes of a record

abbrev pub tag_for : Command → Tag
tag_for (command.Row r) = tag.Row
tag_for (command.Book l) = tag.Book
tag_for (command.Account name) = tag.Account
tag_for (command.Begin time) = tag.Begin
tag_for (command.Event time letter) = tag.Event
tag_for (command.State time code letter) = tag.State
tag_for (command.Reference time code rate) = tag.Reference
tag_for (command.Drop time account) = tag.Drop

abbrev pub values : (c : Command) → Row (kinds (tag_for c))
values (command.Row r) = r.table & r.size & r.start & tt
values (command.Book l) = l.code & l.isin & l.lot & l.table & l.upper & l.lower & l.state & l.reference & tt
values (command.Account name) = name & tt
values (command.Begin time) = time & tt
values (command.Event time letter) = time & letter & tt
values (command.State time code letter) = time & code & letter & tt
values (command.Reference time code rate) = time & code & rate & tt
values (command.Drop time account) = time & account & tt

abbrev pub record_bytes : Command → List ℕ
record_bytes c = tag_byte (tag_for c) ∷ (be 2 (value_length (tag_for c)) ++ write (kinds (tag_for c)) (values c))

-- The lengths of the values; what is asked is read back from its record; what is read is asked by that record alone.
pub record RecordsSound : Type 0 where
  pub row_length : value_length tag.Row ≡ 12
  pub book_length : value_length tag.Book ≡ 37
  pub account_length : value_length tag.Account ≡ 12
  pub begin_length : value_length tag.Begin ≡ 8
  pub event_length : value_length tag.Event ≡ 9
  pub state_length : value_length tag.State ≡ 13
  pub reference_length : value_length tag.Reference ≡ 16
  pub drop_length : value_length tag.Drop ≡ 9
  pub returns : (c : Command) → Fits (kinds (tag_for c)) (values c) → record_read (record_bytes c) ≡ Ok c
  pub keeps : (b : List ℕ) (c : Command) → AllBelowBase 256 b → record_read b ≡ Ok c → record_bytes c ≡ take (wanted b) b
