-- What a packet carries. Its first two bytes say how many follow; the letter comes next, and then what is carried.
use Rattle.std.specs.Prelude.{◌≡◌, ℕ, ◌<◌, cond, List, ◌∷◌, length, drop, Some, None, Option, ◌==◌, nat_lt, slice_index}
use Rattle.std.specs.Bool.{then_some}
use Rattle.std.specs.Option.{option_map, option_or, unwrap_or}
use Rattle.itch.specs.Feed.{feed_bytes, feed_read, FeedFits}
use Rattle.itch.specs.declared.feed.FeedMessage.{FeedMessage}
use Rattle.itch.specs.declared.feed.FeedMessage.TheVariants as message
use Rattle.ouch.specs.Reply.{addressed, addressed_read, ReplyFits}
use Rattle.ouch.specs.declared.reply.Reply.{Reply}
use Rattle.readable.specs.declared.packet.Packet.{Packet}
use Rattle.readable.specs.declared.packet.Packet.TheVariants as packet

-- a message of the feed or of a snapshot, a reply to an account, a fault by its text, or a packet that is none of them, whole
pub data Carried : Type 0 where
  feed : FeedMessage → Carried
  reply : ℕ → Reply → Carried
  fault : List ℕ → Carried
  unknown : List ℕ → Carried

abbrev pub letter : List ℕ → ℕ
letter p = slice_index p 2

abbrev pub payload : List ℕ → List ℕ
payload p = drop 3 p

-- how many accounts there are: they are numbered from 0
abbrev pub accounts : ℕ
accounts = 16

abbrev pub reply_of : Option (ℕ × Reply) → Option Carried
reply_of (Some r) = then_some (nat_lt r.0 accounts) (reply r.0 r.1)
reply_of None = None

-- A reply begins with its account's number, which is below the letters of the feed.
abbrev pub message_of : List ℕ → Option Carried
message_of b = option_or (option_map feed (feed_read b)) (reply_of (addressed_read b))

-- S stands for a message or a reply, + for a fault
abbrev pub packet_of : List ℕ → Carried
packet_of p =
    cond (nat_lt (length p) 3) (unknown p)
    (cond (letter p == 83) (unwrap_or (message_of (payload p)) (unknown p)) (cond (letter p == 43) (fault (payload p)) (unknown p)))

-- what the code's packet says
abbrev pub carried : Packet → Carried
carried (packet.Feed m) = feed m
carried (packet.Reply account m) = reply account m
carried (packet.Fault t) = fault t.now
carried (packet.Unknown p) = unknown p.now

-- The second told last: a seconds message tells one, nothing else does.
abbrev pub told : Option ℕ → FeedMessage → Option ℕ
told s (message.Seconds m) = Some m.seconds
told s (message.Event m) = s
told s (message.Tick m) = s
told s (message.Directory m) = s
told s (message.State m) = s
told s (message.Added m) = s
told s (message.Executed m) = s
told s (message.Deleted m) = s
told s (message.Replaced m) = s
told s (message.EndOfSnapshot m) = s

abbrev pub second_after : Option ℕ → Carried → Option ℕ
second_after s (feed m) = told s m
second_after s (reply account m) = s
second_after s (fault t) = s
second_after s (unknown p) = s

-- A packet with the bytes of a message carries the message, one with those of a reply the reply, and one with a fault its text,
-- whatever its first two bytes.
pub record PacketsTell : Type 0 where
  pub message : (a b : ℕ) (m : FeedMessage) → FeedFits m → packet_of (a ∷ b ∷ 83 ∷ feed_bytes m) ≡ feed m
  pub told : (a b account : ℕ) (m : Reply) → account < accounts → ReplyFits m
      → packet_of (a ∷ b ∷ 83 ∷ addressed account m) ≡ reply account m
  pub text : (a b : ℕ) (t : List ℕ) → packet_of (a ∷ b ∷ 43 ∷ t) ≡ fault t
