use Rattle.std.proofs.Common.{◌≡◌, ◌≤◌, ◌-◌, ◌++◌, replicate}
use Rattle.std.specs.Prelude.{vec_len, vec_capacity}
use Rattle.mte_svc.proofs.output.append_zeros.Given as goal

abbrev pub decreases-loop-bytes : goal.decreases-loop-bytes
decreases-loop-bytes l = l.end - vec_len l.bytes

abbrev pub invariant-loop-bytes : goal.invariant-loop-bytes
invariant-loop-bytes l = record {
  items : l.bytes.items ≡ l.fn.bytes.items ++ replicate (vec_len l.bytes - vec_len l.fn.bytes) 0;
  least : vec_len l.fn.bytes ≤ vec_len l.bytes;
  most : vec_len l.bytes ≤ l.end;
  capacity : vec_capacity l.bytes ≡ vec_capacity l.fn.bytes;
}
