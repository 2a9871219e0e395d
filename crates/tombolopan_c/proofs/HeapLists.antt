-- The worlds between calls.
use Rattle.std.proofs.Common.{◌≡◌, ℕ, suc, ◌+◌, ◌∙◌, List, get_or, refl, ap, arith}
use Rattle.scudo_heap.specs.Placing.{World}
use Rattle.tombolopan_c.specs.HeapCalls.{world_before, after_heap_call}
use Rattle.tombolopan_c.specs.declared.lent_heap.LentHeapCall.{LentHeapCall}

pub world_first : (w : World) (calls : List LentHeapCall) (d : LentHeapCall) → world_before w calls 0 d ≡ w
unfolding world_before
world_first w calls d = refl

world_suc : (w : World) (calls : List LentHeapCall) (k : ℕ) (d : LentHeapCall) → world_before w calls (suc k) d ≡ (after_heap_call (world_before w calls k d) (get_or calls k d)).world
unfolding world_before
world_suc w calls k d = refl

pub world_next : (w : World) (calls : List LentHeapCall) (k : ℕ) (d : LentHeapCall) → world_before w calls (k + 1) d ≡ (after_heap_call (world_before w calls k d) (get_or calls k d)).world
world_next w calls k d =
    let next : k + 1 ≡ suc k = omega arith in
    ap (λ n. world_before w calls n d) next ∙ world_suc w calls k d
