use Rattle.std.proofs.Common.{◌≡◌, ℕ, ◌+◌, ◌-◌, ◌<◌, ◌≤◌, None, List}
use Rattle.std.specs.FinMap.{get}
use Rattle.mte_tags.specs.Memory.{with_new_pages}
use Rattle.mte_tags.specs.declared.state.TagState.{TagState}
use Rattle.mte_translate.specs.Tables.{pages_of, IsCached}
use Rattle.mte_translate.specs.declared.translation.Translation.{Translation}
use Rattle.mte_space.specs.Spaces.{space_memory, IsSpace, KeepsRest}
use Rattle.mte_space.proofs.mapping.map_range.Given as goal

abbrev pub invariant-loop-i : goal.invariant-loop-i
invariant-loop-i l = record {
  space : IsSpace l.pool l.quota l.table l.limit;
  len : l.table.len ≡ l.initial.table.len + l.i;
  free : (k : ℕ) → l.i ≤ k → k < l.pages.count → get (pages_of l.pool l.table.frame) (l.pages.first + k) ≡ None;
  memory : (s : TagState) → with_new_pages (space_memory l.pool l.table l.limit s) (l.pages.first + l.i) (l.pages.count - l.i) l.attrs ≡ with_new_pages (space_memory l.initial.pool l.initial.table l.limit s) l.pages.first l.pages.count l.attrs;
  cached : (asid : ℕ) (ts : List Translation) → IsCached (pages_of l.initial.pool l.initial.table.frame) asid ts → IsCached (pages_of l.pool l.table.frame) asid ts;
  rest : KeepsRest l.initial.quota l.initial.pool l.pool l.initial.table l.table;
  same : l.quota ≡ l.initial.quota;
}
