use Rattle.std.proofs.Common.{length, string_bytes}
use Rattle.readable.specs.Streams.{Shown}
use Rattle.readable.proofs.stream.show_whole.Given as goal

abbrev pub invariant-loop-packet : goal.invariant-loop-packet
invariant-loop-packet l =
    Shown l.bytes l.initial.second.0 (string_bytes l.initial.text) l.rest l.second.0 (string_bytes l.text)

abbrev pub decreases-loop-packet : goal.decreases-loop-packet
decreases-loop-packet l = length l.rest
