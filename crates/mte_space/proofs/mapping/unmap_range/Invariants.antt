use Rattle.std.proofs.Common.{◌≡◌, ℕ, ◌+◌, ◌-◌, ◌<◌, ◌≤◌, true, is_some}
use Rattle.std.specs.FinMap.{get}
use Rattle.mte_tags.specs.Memory.{without_pages}
use Rattle.mte_tags.specs.declared.state.TagState.{TagState}
use Rattle.mte_translate.specs.Tables.{pages_of, IsCached}
use Rattle.mte_space.specs.Spaces.{space_memory, IsSpace, KeepsRest, NoneEnters}
use Rattle.mte_space.proofs.mapping.unmap_range.Given as goal

abbrev pub invariant-loop-i : goal.invariant-loop-i
invariant-loop-i l = record {
  space : IsSpace l.pool l.quota l.table l.tenant.pages;
  mapped : (k : ℕ) → l.i ≤ k → k < l.pages.count → is_some (get (pages_of l.pool l.table.frame) (l.pages.first + k)) ≡ true;
  memory : (s : TagState) → without_pages (space_memory l.pool l.table l.tenant.pages s) (l.pages.first + l.i) (l.pages.count - l.i) ≡ without_pages (space_memory l.initial.pool l.initial.table l.tenant.pages s) l.pages.first l.pages.count;
  cached : IsCached (pages_of l.pool l.table.frame) l.tenant.asid l.tlb;
  entries : NoneEnters l.tenant.asid l.initial.tlb l.tlb;
  rest : KeepsRest l.initial.quota l.initial.pool l.pool l.initial.table l.table;
  same : l.quota ≡ l.initial.quota;
}
