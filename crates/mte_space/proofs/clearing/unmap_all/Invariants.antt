use Rattle.std.proofs.Common.{◌≡◌}
use Rattle.mte_space.specs.Spaces.{IsSpace, KeepsRest}
use Rattle.mte_space.proofs.clearing.unmap_all.Given as goal

abbrev pub decreases-loop-page : goal.decreases-loop-page
decreases-loop-page l = l.table.len

abbrev pub invariant-loop-page : goal.invariant-loop-page
invariant-loop-page l = record {
  space : IsSpace l.pool l.quota l.table l.limit;
  rest : KeepsRest l.initial.quota l.initial.pool l.pool l.initial.table l.table;
  same : l.quota ≡ l.initial.quota;
}
