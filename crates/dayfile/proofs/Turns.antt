-- A turn of the program, from what its calls answer.
use Rattle.std.proofs.Common.{◌≡◌, ℕ, List, length, IsErrAnd, Ok, Err, Result, ap, ◌∙◌}
use Rattle.line.specs.Meaning.{over}
use Rattle.line.specs.Soup.{packets}
use Rattle.rules.specs.declared.fault.Fault.{Fault}
use Rattle.rules.specs.declared.fault.FileFault.{FileFault}
use Rattle.rules.specs.declared.fault.FileFault.TheVariants.{Engine}
use Rattle.engine.specs.Calls.{Outcome, outcome, collect}
use Rattle.market.specs.Host.{Host}
use Rattle.dayfile.specs.Playing.{Played, played, played_out, emptied, waiting_packets, record_played}
use Rattle.dayfile.specs.Taking.{Filed, filed, record_taken}

-- what `?` passes on is the error
error_is : {T E : Type 0} (r : Result T E) (f : E) → IsErrAnd r (λ e. e ≡ f) → r ≡ Err f
error_is (Ok x) f is = absurd is
error_is (Err e) f is = ap Err is

turned : (out : List ℕ) → Filed → Played
turned out t = played_out t.answer t.after out

-- a record that is refused leaves the caller's bytes
pub refused : (h after : Host) (b out : List ℕ) (f : FileFault) (r : Result (ℕ × ℕ) FileFault)
    → IsErrAnd r (λ e. e ≡ f) → filed (Err f) after ≡ record_taken h b → played r after out ≡ record_played h b out
unfolding record_played turned
refused h after b out f r is e = ap (λ (x : Result (ℕ × ℕ) FileFault). played x after out) (error_is r f is) ∙ ap (turned out) e

-- an accepted one has its packets copied, and the lines are emptied
copied : (h between : Host) (counts : ℕ × ℕ) (b out : List ℕ) (o : Outcome)
    → filed (Ok counts) between ≡ record_taken h b → o ≡ collect between → emptied between o out ≡ record_played h b out
unfolding record_played turned
copied h between counts b out o e d = ap (λ (x : Outcome). emptied between x out) d ∙ ap (turned out) e

pub emptied_out : (h between after : Host) (counts sums lengths : ℕ × ℕ) (b out copy : List ℕ)
    → filed (Ok counts) between ≡ record_taken h b → outcome (Ok sums) after ≡ collect between
    → lengths ≡ (length (packets between.feed.waiting), length (packets between.replies.waiting))
    → copy ≡ over (waiting_packets between) out → played (Ok lengths) after copy ≡ record_played h b out
emptied_out h between after counts sums lengths b out copy e d l w =
    ap (λ (x : ℕ × ℕ). played (Ok x) after copy) l ∙ ap (played (Ok _) after) w ∙ copied h between counts b out (outcome (Ok sums) after) e d

pub stuck : (h between after : Host) (counts : ℕ × ℕ) (b out copy : List ℕ) (f : Fault) (r : Result (ℕ × ℕ) FileFault)
    → IsErrAnd r (λ e. e ≡ Engine f) → filed (Ok counts) between ≡ record_taken h b → outcome (Err f) after ≡ collect between
    → copy ≡ over (waiting_packets between) out → played r after copy ≡ record_played h b out
stuck h between after counts b out copy f r is e d w =
    ap (λ (x : Result (ℕ × ℕ) FileFault). played x after copy) (error_is r (Engine f) is) ∙ ap (played (Err (Engine f)) after) w ∙ copied h between counts b out (outcome (Err f) after) e d
