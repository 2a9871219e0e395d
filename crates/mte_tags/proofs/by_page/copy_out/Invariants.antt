use Rattle.std.proofs.Common.{◌≡◌, ◌<◌, ◌≤◌, ◌-◌, ◌^◌, ◌++◌, length, take}
use Rattle.mte_tags.specs.Accesses.{bytes_at, addresses, AreMapped}
use Rattle.mte_tags.proofs.by_page.copy_out.Given as goal

abbrev pub invariant-loop-done : goal.invariant-loop-done
invariant-loop-done g l = record {
  plain : l.place < 2 ^ 56;
  within : l.done ≤ length l.initial.buffer;
  same : g.S.PageStore.memory l.store ≡ g.S.PageStore.memory l.fn.store;
  kept : g.S.PageStore.kept l.fn.store l.store;
  mapped : AreMapped (g.S.PageStore.memory l.fn.store) (addresses l.place (length l.initial.buffer - l.done));
  bytes : take l.done l.buffer ++ bytes_at (g.S.PageStore.memory l.fn.store) (addresses l.place (length l.initial.buffer - l.done)) ≡ bytes_at (g.S.PageStore.memory l.fn.store) (addresses l.at (length l.initial.buffer));
}

abbrev pub decreases-loop-done : goal.decreases-loop-done
decreases-loop-done g l = length l.initial.buffer - l.done
