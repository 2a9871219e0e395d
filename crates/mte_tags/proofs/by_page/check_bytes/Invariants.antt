use Rattle.std.proofs.Common.{◌≡◌, ◌<◌, ◌^◌}
use Rattle.mte_tags.specs.Accesses.{first_fault, addresses}
use Rattle.mte_tags.proofs.by_page.check_bytes.Given as goal

abbrev pub invariant-loop-left : goal.invariant-loop-left
invariant-loop-left g l = record {
  plain : l.place < 2 ^ 56;
  same : g.S.PageStore.memory l.store ≡ g.S.PageStore.memory l.fn.store;
  kept : g.S.PageStore.kept l.fn.store l.store;
  rest : first_fault (g.S.PageStore.memory l.fn.store) l.access (addresses l.at l.count) ≡ first_fault (g.S.PageStore.memory l.fn.store) l.access (addresses l.place l.left);
}

abbrev pub decreases-loop-left : goal.decreases-loop-left
decreases-loop-left g l = l.left
