use Rattle.std.proofs.Common.{◌≡◌, ◌<◌, ◌^◌, ◌%◌}
use Rattle.mte_tags.specs.Memory.{with_granules}
use Rattle.mte_tags.specs.Accesses.{granules, AreMapped}
use Rattle.mte_tags.proofs.by_page.tag_granules.Given as goal

abbrev pub invariant-loop-left : goal.invariant-loop-left
invariant-loop-left g l = record {
  plain : l.place < 2 ^ 56;
  aligned : l.place % 16 ≡ 0;
  kept : g.S.PageStore.kept l.fn.store l.store;
  mapped : AreMapped (g.S.PageStore.memory l.store) (granules l.place l.left);
  tags : with_granules (g.S.PageStore.memory l.store) l.place l.left l.tag l.zero ≡ with_granules (g.S.PageStore.memory l.fn.store) l.at l.count l.tag l.zero;
}

abbrev pub decreases-loop-left : goal.decreases-loop-left
decreases-loop-left g l = l.left
