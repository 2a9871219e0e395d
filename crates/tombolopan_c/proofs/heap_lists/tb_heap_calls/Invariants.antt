use Rattle.std.proofs.Common.{◌≡◌, ℕ, ◌<◌, ◌≤◌, get_or}
use Rattle.tombolopan_c.specs.HeapCalls.{start_of, call_made, world_before}
use Rattle.tombolopan_c.specs.declared.lent_heap.LentHeapCall.{LentHeapCall}
use Rattle.tombolopan_c.proofs.heap_lists.tb_heap_calls.Given as goal

abbrev pub invariant-loop-call : goal.invariant-loop-call
invariant-loop-call l =
    ((d : LentHeapCall) → l.bench ≡ world_before (start_of l.setup) l.initial.calls l.call-index d)
    × (((k : ℕ) (d : LentHeapCall) → k < l.call-index → get_or l.calls k d ≡ call_made (start_of l.setup) l.initial.calls k d)
    × ((k : ℕ) (d : LentHeapCall) → l.call-index ≤ k → get_or l.calls k d ≡ get_or l.initial.calls k d))
