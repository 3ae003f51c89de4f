use Rattle.std.proofs.Common.{◌≡◌, ◌+◌, ◌++◌, take, vec_len, vec_items, vec_capacity}
use Rattle.line.proofs.bytes.append.Given as goal

abbrev pub invariant-loop-byte : goal.invariant-loop-byte
invariant-loop-byte l = record {
  items : vec_items l.buffer ≡ vec_items l.initial.buffer ++ take l.byte-index l.bytes;
  len : vec_len l.buffer ≡ vec_len l.initial.buffer + l.byte-index;
  capacity : vec_capacity l.buffer ≡ vec_capacity l.initial.buffer;
}
