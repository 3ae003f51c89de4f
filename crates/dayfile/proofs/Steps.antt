-- What a record does to the host: by the way that it was read and called; and that a fault leaves the host as it was.
use Rattle.std.proofs.Common.{◌≡◌, ℕ, List, Some, None, Ok, Err, Option, Result, sym, refl, ap, ◌∙◌, subst}
use Rattle.rules.specs.declared.fault.Fault.{Fault}
use Rattle.rules.specs.declared.fault.FileFault.{FileFault}
use Rattle.rules.specs.declared.fault.FileFault.TheVariants.{Engine}
use Rattle.engine.specs.Calls.{outcome, decided, load_row, load_book, load_account, begin, event, state, reference, drop}
use Rattle.market.specs.Host.{Host}
use Rattle.dayfile.specs.Records.{record_read}
use Rattle.dayfile.specs.Taking.{called, Filed, filed, in_file, command_taken, record_taken, Unmoved}
use Rattle.dayfile.specs.declared.command.Command.{Command}
use Rattle.dayfile.specs.declared.command.Command.TheVariants as command

pub unread : (h : Host) (b : List ℕ) (f : FileFault) → Err f ≡ record_read b → filed (Err f) h ≡ record_taken h b
unfolding record_taken
unread h b f e = ap (command_taken h) e

pub refused : (h k : Host) (b : List ℕ) (c : Command) (f : Fault) → Ok c ≡ record_read b → outcome (Err f) k ≡ called h c
    → filed (Err (Engine f)) k ≡ record_taken h b
unfolding record_taken
refused h k b c f e call = ap in_file call ∙ ap (command_taken h) e

pub accepted : (h k : Host) (b : List ℕ) (c : Command) (n : ℕ × ℕ) → Ok c ≡ record_read b → outcome (Ok n) k ≡ called h c
    → filed (Ok n) k ≡ record_taken h b
unfolding record_taken
accepted h k b c n e call = ap in_file call ∙ ap (command_taken h) e

abbrev Keeps : Host → Filed → Type 0
Keeps h x = Unmoved x.answer h x.after

decided_keeps : (h : Host) (o : Option Fault) (after : Host) → Keeps h (in_file (decided h o after))
decided_keeps h (Some f) after = refl
decided_keeps h None after = tt

called_keeps : (h : Host) (c : Command) → Keeps h (in_file (called h c))
unfolding load_row load_book load_account begin event state reference drop
called_keeps h (command.Row r) = decided_keeps h _ _
called_keeps h (command.Book b) = decided_keeps h _ _
called_keeps h (command.Account name) = decided_keeps h _ _
called_keeps h (command.Begin time) = decided_keeps h _ _
called_keeps h (command.Event time letter) = decided_keeps h _ _
called_keeps h (command.State time code letter) = decided_keeps h _ _
called_keeps h (command.Reference time code rate) = decided_keeps h _ _
called_keeps h (command.Drop time account) = decided_keeps h _ _

command_keeps : (h : Host) (r : Result Command FileFault) → Keeps h (command_taken h r)
command_keeps h (Err f) = refl
command_keeps h (Ok c) = called_keeps h c

pub record_keeps : (h k : Host) (b : List ℕ) (r : Result (ℕ × ℕ) FileFault) → filed r k ≡ record_taken h b → Unmoved r h k
unfolding record_taken
record_keeps h k b r e = subst (Keeps h) (sym e) (command_keeps h (record_read b))
