use Rattle.std.proofs.Common.{◌≡◌, ◌+◌, ◌++◌, take, vec_len, vec_capacity}
use Rattle.mte_streams.proofs.reading.append.Given as goal

abbrev pub invariant-loop-byte : goal.invariant-loop-byte
invariant-loop-byte l = record {
  items : l.whole.items ≡ l.fn.whole.items ++ take l.byte-index l.bytes;
  len : vec_len l.whole ≡ vec_len l.fn.whole + l.byte-index;
  capacity : vec_capacity l.whole ≡ vec_capacity l.fn.whole;
}
