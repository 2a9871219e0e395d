use Rattle.std.proofs.Common.{◌≡◌, ◌+◌, ◌<◌, ◌≤◌, length}
use Rattle.debug_lines.proofs.formatted_tables.Entries.entry.Given as goal

abbrev pub invariant-loop : goal.invariant-loop
invariant-loop l = record {
  some : 0 < l.end;
  values : l.self.values ≡ l.initial.self.values;
  shorter : l.counter + length l.self.table.rest.now ≤ length l.initial.self.table.rest.now;
}
