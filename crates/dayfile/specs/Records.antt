-- The records of a day file: a tag of one byte, the length of the value in two, the value. The fields of the value start
-- at byte 3 and lie one behind the other, so that its length follows from them.
use Rattle.std.specs.Prelude.{ℕ, ◌+◌, cond, List, [], ◌∷◌, length, take, drop, Some, None, Ok, Err, Option, Result, ◌==◌, nat_lt, slice_index}
use Rattle.std.specs.Int.Digits.{number_from_digits}
use Rattle.std.specs.Option.{ok_or}
use Rattle.fields.specs.Layout.{Kind, byte, uint, int, text, From, sizes, read_at, apply, letter_of}
use Rattle.rules.specs.declared.fault.FileFault.{FileFault}
use Rattle.rules.specs.declared.fault.FileFault.TheVariants.{Malformed, Truncated}
use Rattle.dayfile.specs.declared.command.Command.{Command}
use Rattle.dayfile.specs.declared.command.Command.TheVariants as command
use Rattle.dayfile.specs.declared.command.Tag.{Tag}
use Rattle.dayfile.specs.declared.command.Tag.TheVariants as tag

-- ---- the kinds of record

abbrev pub tag_byte : Tag → ℕ
tag_byte tag.Row = 1
tag_byte tag.Book = 2
tag_byte tag.Account = 3
tag_byte tag.Begin = 4
tag_byte tag.Event = 6
tag_byte tag.State = 7
tag_byte tag.Reference = 8
tag_byte tag.Drop = 10

abbrev pub tags : List Tag
tags = tag.Row ∷ tag.Book ∷ tag.Account ∷ tag.Begin ∷ tag.Event ∷ tag.State ∷ tag.Reference ∷ tag.Drop ∷ []

abbrev pub tag_of : ℕ → Option Tag
tag_of = letter_of tag_byte tags

-- the tag of the record that begins with these bytes
abbrev pub first_tag : List ℕ → Result Tag FileFault
first_tag b = cond (length b == 0) (Err Truncated) (ok_or (tag_of (slice_index b 0)) Malformed)

-- a tick row, 12 bytes: table, size, start
-- a book, 37 bytes: code, ISIN, lot, tick table, upper and lower yield, state, reference yield
-- an account, 12 bytes: its name
-- begin, 8 bytes: the time
-- an event, 9 bytes: time, letter
-- a state, 13 bytes: time, code, letter
-- a reference, 16 bytes: time, code, yield
-- a drop, 9 bytes: time, the account's number
abbrev pub kinds : Tag → List Kind
kinds tag.Row = uint 4 ∷ uint 4 ∷ int ∷ []
kinds tag.Book = uint 4 ∷ text 12 ∷ uint 4 ∷ uint 4 ∷ int ∷ int ∷ byte ∷ int ∷ []
kinds tag.Account = text 12 ∷ []
kinds tag.Begin = uint 8 ∷ []
kinds tag.Event = uint 8 ∷ byte ∷ []
kinds tag.State = uint 8 ∷ uint 4 ∷ byte ∷ []
kinds tag.Reference = uint 8 ∷ uint 4 ∷ int ∷ []
kinds tag.Drop = uint 8 ∷ byte ∷ []

abbrev pub command_of : (t : Tag) → From (kinds t) Command
command_of tag.Row = λ table size start. command.Row (record { table = table; size = size; start = start })
command_of tag.Book = λ code isin lot table upper lower state reference.
    command.Book (record {
      code = code;
      isin = isin;
      lot = lot;
      table = table;
      upper = upper;
      lower = lower;
      state = state;
      reference = reference;
    })
command_of tag.Account = command.Account
command_of tag.Begin = command.Begin
command_of tag.Event = command.Event
command_of tag.State = command.State
command_of tag.Reference = command.Reference
command_of tag.Drop = command.Drop

-- how many bytes the value has
abbrev pub value_length : Tag → ℕ
value_length t = sizes (kinds t)

-- tag and length
abbrev pub header : ℕ
header = 3

-- the length that a record states
abbrev pub stated : List ℕ → ℕ
stated b = number_from_digits 256 (take 2 (drop 1 b))

-- the length of a record's value, where it is stated whole and is the tag's
abbrev pub length_read : Tag → List ℕ → Result ℕ FileFault
length_read t b =
    cond (nat_lt (length b) header) (Err Truncated)
    (cond (stated b == value_length t) (Ok (stated b)) (Err Malformed))

-- ---- how many bytes the record has that begins with these bytes, as far as they tell

abbrev pub wanted_by : Result ℕ FileFault → ℕ
wanted_by (Ok n) = header + n
wanted_by (Err f) = header

abbrev pub wanted_under : Option Tag → List ℕ → ℕ
wanted_under None b = 1
wanted_under (Some t) b = wanted_by (length_read t b)

unfoldable pub wanted : List ℕ → ℕ
wanted b = cond (length b == 0) 1 (wanted_under (tag_of (slice_index b 0)) b)

-- ---- what a record asks, or why it is refused; there are as many of its bytes as the file has

abbrev pub value_read : Tag → List ℕ → Command
value_read t b = apply (kinds t) (command_of t) (read_at (kinds t) header b)

abbrev pub read_by : Tag → Result ℕ FileFault → List ℕ → Result Command FileFault
read_by t (Ok n) b = cond (nat_lt (length b) (header + n)) (Err Truncated) (Ok (value_read t b))
read_by t (Err f) b = Err f

abbrev pub read_under : Option Tag → List ℕ → Result Command FileFault
read_under None b = Err Malformed
read_under (Some t) b = read_by t (length_read t b) b

unfoldable pub record_read : List ℕ → Result Command FileFault
record_read b = cond (length b == 0) (Err Truncated) (read_under (tag_of (slice_index b 0)) b)
