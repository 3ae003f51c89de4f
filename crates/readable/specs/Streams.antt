-- A stream of packets, as far as its bytes have come.
use Rattle.std.specs.Prelude.{◌≡◌, ℕ, ◌+◌, ◌^◌, ◌<◌, ◌≤◌, cond, List, [], ◌∷◌, ◌++◌, map, length, take, drop, Some, None, vec_items, codes, decimal, Option, ◌==◌, nat_lt}
use Rattle.std.specs.Int.Digits.{number_from_digits}
use Rattle.std.specs.List.{flat_map, AllByRecursion}
use Rattle.fields.specs.Be.{be}
use Rattle.readable.specs.declared.stream.Stream.{Stream}
use Rattle.readable.specs.declared.stream.Truncated.{Truncated}
use Rattle.readable.specs.Packets.{packet_of, second_after}
use Rattle.readable.specs.PacketLines.{packet_line}

-- How many bytes the packet at the front has: two for its length, as long as that has not come, and then those that it says too.
abbrev pub wanted : List ℕ → ℕ
wanted b = cond (nat_lt (length b) 2) 2 (2 + number_from_digits 256 (take 2 b))

-- The bytes are the packets one after another, each whole, and then the rest.
pub record Cut (bytes : List ℕ) (packets : List (List ℕ)) (rest : List ℕ) : Type 0 where
  pub joins : flat_map (λ p. p) packets ++ rest ≡ bytes
  pub whole : AllByRecursion (λ p. length p ≡ wanted p) packets

-- no packet of the rest has come whole
abbrev pub Short : List ℕ → Type 0
Short rest = length rest < wanted rest

abbrev pub line_of : Option ℕ → List ℕ → List ℕ
line_of s p = packet_line s (packet_of p) ++ codes "\n"

-- The second told last, after some packets; and their lines.
abbrev pub second_after_all : Option ℕ → List (List ℕ) → Option ℕ
second_after_all s [] = s
second_after_all s (p ∷ ps) = second_after_all (second_after s (packet_of p)) ps

abbrev pub lines : Option ℕ → List (List ℕ) → List ℕ
lines s [] = []
lines s (p ∷ ps) = line_of s p ++ lines (second_after s (packet_of p)) ps

-- All but a rest is packets; their lines went behind a text, and the second told last follows them.
pub record Shown (bytes : List ℕ) (before : Option ℕ) (text rest : List ℕ) (after : Option ℕ) (text' : List ℕ) : Type 0 where
  pub packets : List (List ℕ)
  pub cut : Cut bytes packets rest
  pub second : after ≡ second_after_all before packets
  pub lined : text' ≡ text ++ lines before packets

-- the same of the first n bytes, and what is left of them is short
pub record ShownWhole (bytes : List ℕ) (before : Option ℕ) (text : List ℕ) (n : ℕ) (after : Option ℕ) (text' : List ℕ) : Type 0 where
  pub shown : Shown bytes before text (drop n bytes) after text'
  pub within : n ≤ length bytes
  pub short : Short (drop n bytes)

-- Some bytes have come so far, and their whole packets were shown as a text.
pub record SoFar (bytes : List ℕ) (s : Stream) (text : List ℕ) : Type 0 where
  pub packets : List (List ℕ)
  pub cut : Cut bytes packets (vec_items s.pending)
  pub short : Short (vec_items s.pending)
  pub second : s.second.0 ≡ second_after_all None packets
  pub lined : text ≡ lines None packets

-- Whatever came before, some bytes more add to a text what then has been shown of all of them.
abbrev pub GoesOn : Stream → List ℕ → List ℕ → Stream → List ℕ → Type 0
GoesOn s bytes text s' text' =
    (seen before : List ℕ) →
    SoFar seen s before → (more : List ℕ) × (text' ≡ text ++ more) × SoFar (seen ++ bytes) s' (before ++ more)

-- A stream is cut in one way.
abbrev pub CutOnce : Type 0
CutOnce =
    (bytes : List ℕ) (ps : List (List ℕ)) (r : List ℕ) (qs : List (List ℕ)) (t : List ℕ) →
    Cut bytes ps r → Short r → Cut bytes qs t → Short t → (ps ≡ qs) × (r ≡ t)

-- what stands behind the length of a packet, with that length
abbrev pub framed : List ℕ → List ℕ
framed body = be 2 (length body) ++ body

-- Packets laid one behind another are cut into just those.
abbrev pub FramedCut : Type 0
FramedCut =
    (bodies : List (List ℕ)) →
    AllByRecursion (λ b. length b < 2 ^ 16) bodies → Cut (flat_map framed bodies) (map framed bodies) []

-- a packet of which only a part has come
abbrev pub truncation : List ℕ → Option Truncated
truncation rest = cond (length rest == 0) None (Some (record { have = length rest; whole = wanted rest }))

abbrev pub truncated_line : Truncated → List ℕ
truncated_line t = codes "truncated: " ++ (decimal t.have ++ (codes " of " ++ (decimal t.whole ++ codes " bytes")))
