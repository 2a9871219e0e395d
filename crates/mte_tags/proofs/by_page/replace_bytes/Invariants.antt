use Rattle.std.proofs.Common.{◌≡◌, ◌<◌, ◌≤◌, ◌-◌, ◌^◌, length, drop}
use Rattle.mte_tags.specs.Accesses.{with_bytes, addresses, AreMapped}
use Rattle.mte_tags.proofs.by_page.replace_bytes.Given as goal

abbrev pub invariant-loop-done : goal.invariant-loop-done
invariant-loop-done g l = record {
  plain : l.place < 2 ^ 56;
  within : l.done ≤ length l.bytes;
  kept : g.S.PageStore.kept l.fn.store l.store;
  mapped : AreMapped (g.S.PageStore.memory l.store) (addresses l.place (length l.bytes - l.done));
  bytes : with_bytes (g.S.PageStore.memory l.store) (addresses l.place (length l.bytes - l.done)) (drop l.done l.bytes) ≡ with_bytes (g.S.PageStore.memory l.fn.store) (addresses l.at (length l.bytes)) l.bytes;
}

abbrev pub decreases-loop-done : goal.decreases-loop-done
decreases-loop-done g l = length l.bytes - l.done
