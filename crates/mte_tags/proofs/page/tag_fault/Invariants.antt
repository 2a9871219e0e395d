use Rattle.std.proofs.Common.{◌≡◌, ◌≤◌, ◌+◌, Some}
use Rattle.std.specs.List.{range_with_len}
use Rattle.mte_tags.specs.Inner.{first_in}
use Rattle.mte_tags.proofs.page.tag_fault.Given as goal

abbrev pub invariant-loop-left : goal.invariant-loop-left
invariant-loop-left g l = record {
  address : l.address + l.left ≡ l.at + l.count;
  whole : l.left ≤ l.count;
  rest : first_in l.access (Some (g.S.PageStore.page_in l.store l.place)) (range_with_len l.at l.count) ≡ first_in l.access (Some (g.S.PageStore.page_in l.store l.place)) (range_with_len l.address l.left);
}

abbrev pub decreases-loop-left : goal.decreases-loop-left
decreases-loop-left g l = l.left
