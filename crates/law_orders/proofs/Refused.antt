-- A refused call leaves everything as it was.
use Rattle.std.proofs.Common.{◌≡◌, ℕ, Some, None, Ok, Err, Option, Result, refl, arith}
use Rattle.line.specs.Meaning.{Meaning}
use Rattle.ouch.specs.Inbound.{Asked, inbound}
use Rattle.ouch.specs.declared.inbound.MessageFault.{MessageFault}
use Rattle.rules.specs.declared.fault.Fault.{Fault}
use Rattle.engine.specs.Calls as calls
use Rattle.engine.specs.Calls.{decided, message_done, message_fault, message_read, shot_unless, snapshot_fault}
use Rattle.market.specs.Host.{Host}
use Rattle.law.specs.Runs.{load_row, load_book, load_account, begin, message, drop_account, event, state, reference, snapshot, collect, step}
use Rattle.law_orders.specs.Statements.{RefusedLeaves}

-- an answer that is no refusal
accepted : {X : Type 0} (n : ℕ × ℕ) (f : Fault) → Ok n ≡ Err f → X
accepted n f e = let z : ◌≡◌ {A = ℕ} 0 1 = cc in absurd (omega arith)

decided_leaves : (h i : Host) (o : Option Fault) (f : Fault) → (decided h o i).answer ≡ Err f → (decided h o i).after ≡ h
decided_leaves h i (Some g) f e = refl
decided_leaves h i None f e = accepted _ f e

read_leaves : (h : Host) (t account : ℕ) (r : Result Asked MessageFault) (f : Fault) → (message_read h t account r).answer ≡ Err f → (message_read h t account r).after ≡ h
read_leaves h t account (Err g) f e = refl
read_leaves h t account (Ok m) f e = decided_leaves h (message_done h t account m) (message_fault h t account) f e

shot-leaves :
    (h : Host) (t : ℕ) (l : Meaning) (o : Option Fault) (f : Fault) → (shot_unless h t l o).answer ≡ Err f →
    ((shot_unless h t l o).after ≡ h) × ((shot_unless h t l o).line ≡ l)
shot-leaves h t l (Some g) f e = (refl, refl)
shot-leaves h t l None f e = accepted _ f e

pub refused_leaves : RefusedLeaves
unfolding step calls.load_row calls.load_book calls.load_account calls.begin calls.message calls.drop calls.event calls.state calls.reference calls.snapshot calls.collect
refused_leaves h (load_row r) f e = (decided_leaves h _ (calls.load_row_fault h r) f e, refl)
refused_leaves h (load_book b) f e = (decided_leaves h _ (calls.load_book_fault h b) f e, refl)
refused_leaves h (load_account name) f e = (decided_leaves h _ (calls.load_account_fault h name) f e, refl)
refused_leaves h (begin t) f e = (decided_leaves h (calls.begin_done h t) (calls.begin_fault h t) f e, refl)
refused_leaves h (message t account bytes) f e = (read_leaves h t account (inbound bytes) f e, refl)
refused_leaves h (drop_account t account) f e = (decided_leaves h (calls.drop_done h t account) (calls.drop_fault h t account) f e, refl)
refused_leaves h (event t letter) f e = (decided_leaves h (calls.event_done h t letter) (calls.event_fault h t letter) f e, refl)
refused_leaves h (state t code letter) f e = (decided_leaves h (calls.state_done h t code letter) _ f e, refl)
refused_leaves h (reference t code y) f e = (decided_leaves h (calls.reference_done h t code y) _ f e, refl)
refused_leaves h (snapshot t l) f e = shot-leaves h t l (snapshot_fault h t l) f e
refused_leaves h collect f e = (decided_leaves h (calls.collect_done h) (calls.collect_fault h) f e, refl)
