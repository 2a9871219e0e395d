use Rattle.std.proofs.Common.{◌≤◌, length}
use Rattle.debug_lines.proofs.operation.Operations.unused.Given as goal

abbrev pub invariant-loop : goal.invariant-loop
invariant-loop l = length l.self.program.rest.now ≤ length l.initial.self.program.rest.now
