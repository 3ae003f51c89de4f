-- The line of a packet.
use Rattle.std.specs.Prelude.{◌≡◌, ℕ, Bool, true, not, ◌&&◌, List, [], ◌∷◌, ◌++◌, take, drop, codes, decimal, filter, Option, ◌==◌, nat_le}
use Rattle.std.specs.Int.Digits.{AllBelowBase}
use Rattle.std.specs.List.{list_all}
use Rattle.itch.specs.declared.feed.FeedMessage.{FeedMessage}
use Rattle.itch.specs.declared.feed.FeedMessage.TheVariants as message
use Rattle.readable.specs.Hex.{paired}
use Rattle.readable.specs.Lines.{words, named, seconds_line, event_line, tick_line, directory_line, state_line, added_line, executed_line, deleted_line, replaced_line, end_line}
use Rattle.readable.specs.Packets.{Carried, feed, reply, fault, unknown}
use Rattle.readable.specs.ReplyLines.{reply_line}
use Rattle.readable.specs.Spelling.{spelling, hex_bytes}

abbrev pub feed_line : Option ℕ → FeedMessage → List ℕ
feed_line s (message.Seconds m) = seconds_line m
feed_line s (message.Event m) = event_line s m
feed_line s (message.Tick m) = tick_line s m
feed_line s (message.Directory m) = directory_line s m
feed_line s (message.State m) = state_line s m
feed_line s (message.Added m) = added_line s m
feed_line s (message.Executed m) = executed_line s m
feed_line s (message.Deleted m) = deleted_line s m
feed_line s (message.Replaced m) = replaced_line s m
feed_line s (message.EndOfSnapshot m) = end_line s m

-- the two bytes of its length together, and each further one after a space
abbrev pub unknown_line : List ℕ → List ℕ
unknown_line p = codes "? " ++ (hex_bytes [] (take 2 p) ++ hex_bytes (codes " ") (drop 2 p))

abbrev pub packet_line : Option ℕ → Carried → List ℕ
packet_line s (feed m) = feed_line s m
packet_line s (reply account m) = words (named "account" (decimal account) ∷ reply_line m ∷ [])
packet_line s (fault t) = codes "+ " ++ spelling t
packet_line s (unknown p) = unknown_line p

-- Every byte of a line is a printable character of ASCII, so that it stays one line.
abbrev pub one_line : List ℕ → Bool
one_line = list_all (λ b. nat_le 32 b && nat_le b 126)

abbrev pub OneLine : Type 0
OneLine = (s : Option ℕ) (c : Carried) → one_line (packet_line s c) ≡ true

-- The line of an unknown packet names all its bytes: the digits behind the mark, but for the spaces, are theirs.
abbrev pub UnknownNames : Type 0
UnknownNames = (p : List ℕ) → AllBelowBase 256 p → paired (filter (λ c. not (c == 32)) (drop 2 (unknown_line p))) ≡ p
