use Rattle.std.proofs.Common.{◌≡◌}
use Rattle.pointer_provenance.proofs.arguments.length_of_string.Given as goal

-- what was read has changed nothing
abbrev pub invariant-loop-length : goal.invariant-loop-length
invariant-loop-length g l = record {
  memory : g.M.Tagged.memory l.memory ≡ g.M.Tagged.memory l.fn.memory;
  kept : g.M.Tagged.kept l.fn.memory l.memory;
}
