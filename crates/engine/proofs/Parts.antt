-- The store of which an engine can be made is empty.
use Rattle.std.proofs.Common.{◌≡◌, ℕ, Bool, true, false, cond, List, [], length, Ok, Err, Result, refl, arith}
use Rattle.std.proofs.lemmas.List.{nil_from_length}
use Rattle.std.proofs.lemmas.Bool.{eqb-true, and_parts}
use Rattle.line.specs.Meaning.{Meaning}
use Rattle.line.specs.declared.refusal.Refusal.{Refusal}
use Rattle.line.specs.declared.refusal.Refusal.TheVariants.{Parts}
use Rattle.store.specs.declared.record.Record.{Record}
use Rattle.market.specs.Host.{parts_fit, parts_answer}

passed : (fit : Bool) → ◌≡◌ {A = Result (Unit {0}) Refusal} (cond fit (Ok tt) (Err Parts)) (Ok tt) → fit ≡ true
passed true e = refl
passed false e = let z : ◌≡◌ {A = ℕ} 0 1 = cc in absurd (omega arith)

pub parts_empty : (orders : List Record) (feed replies : Meaning) (first_order first_match : ℕ) → parts_answer orders feed replies first_order first_match ≡ Ok tt → orders ≡ []
parts_empty orders feed replies first_order first_match fit =
    nil_from_length orders (eqb-true (length orders) 0 (and_parts _ _ (passed (parts_fit orders feed replies first_order first_match) fit)).0)
