-- A turn of the program: a record is taken, what then waits is copied out, and the lines are emptied.
use Rattle.std.specs.Prelude.{ℕ, List, ◌++◌, length, Ok, Err, Result}
use Rattle.std.specs.Result as results
use Rattle.line.specs.Meaning.{over}
use Rattle.line.specs.Soup.{packets}
use Rattle.rules.specs.declared.fault.FileFault.{FileFault}
use Rattle.rules.specs.declared.fault.FileFault.TheVariants.{Engine}
use Rattle.engine.specs.Calls.{Outcome, collect}
use Rattle.market.specs.Host.{Host}
use Rattle.dayfile.specs.Taking.{record_taken}

-- the packets of the feed and then those of the replies
abbrev pub waiting_packets : Host → List ℕ
waiting_packets h = packets h.feed.waiting ++ packets h.replies.waiting

pub record Played : Type 0 where
  pub answer : Result (ℕ × ℕ) FileFault
  pub after : Host
  pub out : List ℕ

abbrev pub played : Result (ℕ × ℕ) FileFault → Host → List ℕ → Played
played r h out = record { answer = r; after = h; out = out }

-- the bytes of either line's packets are answered; a line that cannot be emptied is a fault of the engine
abbrev pub emptied : Host → Outcome → List ℕ → Played
emptied h o out =
    played (results.result_map_both (λ _. (length (packets h.feed.waiting), length (packets h.replies.waiting))) Engine o.answer) o.after
    (over (waiting_packets h) out)

abbrev pub played_out : Result (ℕ × ℕ) FileFault → Host → List ℕ → Played
played_out (Err f) h out = played (Err f) h out
played_out (Ok counts) h out = emptied h (collect h) out

unfoldable pub record_played : Host → List ℕ → List ℕ → Played
record_played h b out = played_out (record_taken h b).answer (record_taken h b).after out
