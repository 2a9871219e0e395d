-- A call that aborts leaves the world as it was, and each keeps the other pages and leaves a sound world.
use Rattle.std.proofs.Common.{◌≡◌, ℕ, ◌==◌, Bool, true, false, cond, Result, Ok, Err, refl, ap}
use Rattle.a64_bits.specs.Addresses.{plain}
use Rattle.scudo_heap.specs.declared.abort.HeapAbort.{HeapAbort}
use Rattle.scudo_heap.specs.declared.call.HeapCall.{HeapCall}
use Rattle.scudo_heap.specs.declared.call.HeapCall.TheVariants.{Malloc, Free, Calloc, Realloc, Memalign, UsableSize}
use Rattle.scudo_heap.specs.declared.chunk.Found.{Found}
use Rattle.scudo_heap.specs.Placing.{World}
use Rattle.scudo_heap.specs.Allocation.{after_malloc}
use Rattle.scudo_heap.specs.Checks.{check_pointer}
use Rattle.scudo_heap.specs.Freeing.{Freed, free_cases, free_of}
use Rattle.scudo_heap.specs.Realloc.{ReallocResult, realloc_answer, reallocation_of, checked_realloc_cases, after_realloc}
use Rattle.scudo_heap.specs.Calls.{free_answer, after_call}
use Rattle.scudo_heap.specs.Served.{HeapOwnsItsPages}
use Rattle.scudo_heap.specs.Sound.{IsSound, IsSoundWorld}
use Rattle.scudo_heap.specs.Others.{KeepsOthers}
use Rattle.scudo_heap.proofs.CallSteps.{IsLeft, left-same, malloc_left, calloc_left, memalign_left, free_left, realloc_left}

-- ---- a call that aborts

freed_stays : (w : World) (f : Result Found HeapAbort) (e : HeapAbort) → (free_cases w f).result ≡ Err e → (free_cases w f).world ≡ w
freed_stays w (Err d) e h = refl
freed_stays w (Ok f) e h = cc

free_either : (b : Bool) (w : World) (x y : Freed) (e : HeapAbort) → (x.result ≡ Err e → x.world ≡ w) → (y.result ≡ Err e → y.world ≡ w) → (cond b x y).result ≡ Err e → (cond b x y).world ≡ w
free_either true w x y e f g h = f h
free_either false w x y e f g h = g h

free_stays : (w : World) (pointer : ℕ) (e : HeapAbort) → (free_of w pointer).result ≡ Err e → (free_of w pointer).world ≡ w
unfolding free_of
free_stays w pointer e =
    let found = check_pointer w.memory w.heap (plain pointer) in
    free_either (pointer == 0) w _ (free_cases w found) e (λ h. refl) (freed_stays w found e)

reallocated_stays : (w : World) (n : ℕ) (r : Result Found HeapAbort) (e : HeapAbort) → realloc_answer (checked_realloc_cases w n r).result ≡ Err e → (checked_realloc_cases w n r).world ≡ w
reallocated_stays w n (Err d) e h = refl
reallocated_stays w n (Ok f) e h = cc

realloc_either : (b : Bool) (w : World) (x y : ReallocResult) (e : HeapAbort) → (realloc_answer x.result ≡ Err e → x.world ≡ w) → (realloc_answer y.result ≡ Err e → y.world ≡ w)
    → realloc_answer (cond b x y).result ≡ Err e → (cond b x y).world ≡ w
realloc_either true w x y e f g h = f h
realloc_either false w x y e f g h = g h

realloc_stays : (w : World) (pointer n : ℕ) (e : HeapAbort) → realloc_answer (after_realloc w pointer n).result ≡ Err e → (after_realloc w pointer n).world ≡ w
unfolding after_realloc
realloc_stays w pointer n e =
    let found = check_pointer w.memory w.heap (plain pointer) in
    realloc_either (pointer == 0) w (reallocation_of (after_malloc w n)) (checked_realloc_cases w n found) e (λ h. cc) (reallocated_stays w n found e)

free_error : (r : Result (Unit {0}) HeapAbort) (e : HeapAbort) → free_answer r ≡ Err e → r ≡ Err e
free_error (Err d) e h = let same : d ≡ e = cc in ap (λ x. Err x) same
free_error (Ok done) e h = cc

pub call_stays : (w : World) (call : HeapCall) (e : HeapAbort) → (after_call w call).answer ≡ Err e → (after_call w call).world ≡ w
unfolding after_call
call_stays w (Malloc size) e h = cc
call_stays w (Free pointer) e h = free_stays w pointer e (free_error (free_of w pointer).result e h)
call_stays w (Calloc count size) e h = cc
call_stays w (Realloc pointer size) e h = realloc_stays w pointer size e h
call_stays w (Memalign alignment size) e h = cc
call_stays w (UsableSize pointer) e h = refl

-- ---- what it leaves

pub call_left : (w : World) (call : HeapCall) → HeapOwnsItsPages w.memory w.heap → IsSound w.heap → IsLeft w (after_call w call).world
unfolding after_call
call_left w (Malloc size) v s = malloc_left w size v s
call_left w (Free pointer) v s = free_left w pointer v s
call_left w (Calloc count size) v s = calloc_left w count size v s
call_left w (Realloc pointer size) v s = realloc_left w pointer size v s
call_left w (Memalign alignment size) v s = memalign_left w alignment size v s
call_left w (UsableSize pointer) v s = left-same w

pub call_others : (w : World) (call : HeapCall) → HeapOwnsItsPages w.memory w.heap → IsSound w.heap → KeepsOthers w.memory (after_call w call).world.memory
call_others w call v s = (call_left w call v s).others

pub call_sound : (w : World) (call : HeapCall) → IsSoundWorld w → IsSoundWorld (after_call w call).world
call_sound w call v = (call_left w call v.owned v.parts).sound v
