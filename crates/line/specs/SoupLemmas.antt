-- What the proof of a law of Soup cites.
use Rattle.std.specs.Prelude.{◌≡◌, ℕ, zero, suc, List, length, drop, refl}
use Rattle.std.proofs.Common.{ap}
use Rattle.line.specs.Soup.{size, messages}

-- as many messages are read as are asked for
pub messages_counted : (n : ℕ) (bytes : List ℕ) → length (messages n bytes) ≡ n
messages_counted zero bytes = refl
messages_counted (suc n) bytes = ap suc (messages_counted n (drop (size bytes) (drop 3 bytes)))
