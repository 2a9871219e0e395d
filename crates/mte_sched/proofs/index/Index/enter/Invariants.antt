use Rattle.std.proofs.Common.{◌≡◌, ◌-◌, ◌++◌, ◌≤◌, max, length, replicate, vec_len, vec_capacity}
use Rattle.mte_sched.proofs.index.Index.enter.Given as goal

abbrev pub invariant-loop : goal.invariant-loop
invariant-loop l = record {
  items : l.self.positions.items ≡ l.fn.self.positions.items ++ replicate (l.counter - length l.fn.self.positions.items) 0;
  many : vec_len l.self.positions ≡ l.counter;
  most : l.counter ≤ max l.end (length l.fn.self.positions.items);
  room : vec_capacity l.self.positions ≡ vec_capacity l.fn.self.positions;
}
