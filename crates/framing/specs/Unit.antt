-- How far a unit of a stream came in.
use Rattle.std.specs.Prelude.{◌≡◌, ℕ, ◌<◌, ◌≤◌, List, ◌++◌, length, Ok, Err, Result}
use Rattle.framing.specs.declared.Fill.{Fill}
use Rattle.framing.specs.declared.Fill.TheVariants.{Whole, Ended}

-- a whole unit has as many bytes as its front says, and one that the input's end cut short has fewer
abbrev pub Came : (List ℕ → ℕ) → List ℕ → Fill → Type 0
Came size bytes Whole = length bytes ≡ size bytes
Came size bytes Ended = length bytes < size bytes

abbrev pub Reached : {E : Type 0} → (List ℕ → ℕ) → List ℕ → Result Fill E → Type 0
Reached size bytes (Ok f) = Came size bytes f
Reached size bytes (Err e) = length bytes ≤ size bytes

-- some bytes more, at most so many, and as many as are answered
abbrev pub Added : {E : Type 0} → ℕ → List ℕ → List ℕ → Result ℕ E → Type 0
Added most before after (Ok n) = (more : List ℕ) × (after ≡ before ++ more) × (length more ≡ n) × (n ≤ most)
Added most before after (Err e) = after ≡ before
