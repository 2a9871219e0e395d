use Rattle.std.proofs.Common.{◌≡◌, ◌<◌, ◌^◌, ◌-◌, ◌⊎◌, is_some, true}
use Rattle.mte_tags.specs.Accesses.{addresses}
use Rattle.mte_tags.specs.Memory.{page_at}
use Rattle.mte_tags.specs.declared.state.TagState.{TagState}
use Rattle.tombolopan_c.specs.MemoryCodes.{all_mapped}
use Rattle.tombolopan_c.specs.LentPages.{lent_memory}
use Rattle.tombolopan_c.proofs.find.are_mapped.Given as goal

-- what is left decides; the page that was found last is mapped
abbrev pub invariant-loop : goal.invariant-loop
invariant-loop l = record {
  plain : l.place < 2 ^ 56;
  rest :
      (s : TagState)
      → all_mapped (lent_memory s l.pages) (addresses l.place (l.count - l.counter))
      ≡ all_mapped (lent_memory s l.pages) (addresses l.at l.count);
  known :
      (l.known ≡ 18446744073709551615)
      ⊎ ((s : TagState) → is_some (page_at (lent_memory s l.pages) l.known) ≡ true);
}
