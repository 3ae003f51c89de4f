-- What a record of the day file does to the host.
use Rattle.std.specs.Prelude.{◌≡◌, ℕ, List, Ok, Err, Result}
use Rattle.std.specs.Result as results
use Rattle.rules.specs.declared.fault.FileFault.{FileFault}
use Rattle.rules.specs.declared.fault.FileFault.TheVariants.{Engine}
use Rattle.engine.specs.Calls.{Outcome, load_row, load_book, load_account, begin, event, state, reference, drop}
use Rattle.market.specs.Host.{Host}
use Rattle.dayfile.specs.Records.{record_read}
use Rattle.dayfile.specs.declared.command.Command.{Command}
use Rattle.dayfile.specs.declared.command.Command.TheVariants as command

-- the call that a command makes
abbrev pub called : Host → Command → Outcome
called h (command.Row r) = load_row h r
called h (command.Book b) = load_book h b
called h (command.Account name) = load_account h name
called h (command.Begin time) = begin h time
called h (command.Event time letter) = event h time letter
called h (command.State time code letter) = state h time code letter
called h (command.Reference time code rate) = reference h time code rate
called h (command.Drop time account) = drop h time account

pub record Filed : Type 0 where
  pub answer : Result (ℕ × ℕ) FileFault
  pub after : Host

abbrev pub filed : Result (ℕ × ℕ) FileFault → Host → Filed
filed r h = record { answer = r; after = h }

-- a fault of the engine stands inside one of the file
abbrev pub in_file : Outcome → Filed
in_file o = filed (results.result_map_both (λ counts. counts) Engine o.answer) o.after

-- a record that cannot be read leaves the host as it was; what it asks is else called
abbrev pub command_taken : Host → Result Command FileFault → Filed
command_taken h (Err f) = filed (Err f) h
command_taken h (Ok c) = in_file (called h c)

unfoldable pub record_taken : Host → List ℕ → Filed
record_taken h b = command_taken h (record_read b)

-- a fault leaves the host as it was
abbrev pub Unmoved : Result (ℕ × ℕ) FileFault → Host → Host → Type 0
Unmoved (Ok counts) before after = Unit {0}
Unmoved (Err f) before after = after ≡ before
