use Rattle.std.proofs.Common.{◌≡◌, ◌-◌, drop, length}
use Rattle.run_records.specs.Ends.{ending_call}
use Rattle.run_records.proofs.book.Book.with_end.Given as goal

abbrev pub decreases-loop-entry : goal.decreases-loop-entry
decreases-loop-entry l = length l.self.entries.items - l.next

abbrev pub invariant-loop-entry : goal.invariant-loop-entry
invariant-loop-entry l = record {
  rest : ending_call l.start (drop l.next l.self.entries.items) ≡ ending_call l.start (drop l.later l.self.entries.items);
}
