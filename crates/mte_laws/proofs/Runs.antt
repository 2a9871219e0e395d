-- Careful runs keep the live chunks Sound, and what is freed as it is until an allocation takes its block.
use Rattle.std.proofs.Common.{◌≡◌, ◌≢◌, ℕ, ◌/◌, ◌==◌, Bool, true, false, cond, Result, Ok, Err, refl, sym, subst, inl, arith}
use Rattle.std.proofs.lemmas.Bool.Decides.{nat_tests}
use Rattle.scudo_heap.specs.declared.abort.HeapAbort.{HeapAbort}
use Rattle.scudo_heap.specs.declared.call.HeapCall.{HeapCall}
use Rattle.scudo_heap.specs.declared.call.HeapCall.TheVariants.{Malloc, Free, Calloc, Realloc, Memalign, UsableSize}
use Rattle.scudo_heap.specs.declared.chunk.Found.{Found}
use Rattle.scudo_heap.specs.Freeing.{Freed as Outcome, free_cases, free_of}
use Rattle.scudo_heap.specs.Realloc.{ReallocResult, reallocation_of, checked_realloc_cases, after_realloc}
use Rattle.scudo_heap.specs.Calls.{after_call}
use Rattle.scudo_heap.specs.Allocation.{after_malloc}
use Rattle.scudo_heap.specs.Sound.{IsSoundWorld}
use Rattle.scudo_heap.proofs.SoundLemmas.{sound-same}
use Rattle.scudo_header.specs.declared.headers.Origin.TheVariants as origin
use Rattle.mte_laws.specs.CarefulRuns.{State, Live, with_made_chunk, live_free_cases, live_realloc_cases, live_free, live_realloc, found_at, state_after_call, IsPointerTo, IsCareful, IsQuiet, Step, quiet, call, Run, stop, next, HasFree}
use Rattle.mte_laws.specs.SoundHeaps.{Sound}
use Rattle.mte_laws.proofs.Freed.{Freed, IsStale}
use Rattle.mte_laws.proofs.Serving.{blocks-of}
use Rattle.mte_laws.proofs.BlockSteps.{IsSameTags, same-tags_sound, same-tags_stale}
use Rattle.mte_laws.proofs.MadeStates.{state-sound}
use Rattle.mte_laws.proofs.MadeCalls.{malloc-state-after-allocation, calloc-state-after-allocation, memalign-state-after-allocation}
use Rattle.mte_laws.proofs.FoundStates.{listed}
use Rattle.mte_laws.proofs.FreeStates.{IsKeptOn, kept-same, free-kept}
use Rattle.mte_laws.proofs.ReallocStates.{state-after-allocation-kept, realloc-cases-kept}

-- ---- calls

free_by-kept : (s : State) (pointer : ℕ) (r : Result Found HeapAbort) → Sound s → IsPointerTo s pointer → pointer ≢ 0 → found_at s.world pointer ≡ r → IsKeptOn s (record { world = (free_cases s.world r).world; live = live_free_cases s.live r })
free_by-kept s pointer (Err e) k c n f = kept-same s k
free_by-kept s pointer (Ok g) k c n f = free-kept s k (listed s pointer g k c n f)

branch-free : (s : State) (b : Bool) (x y : Outcome) (l m : Live) → (b ≡ true → IsKeptOn s (record { world = x.world; live = l })) → (b ≡ false → IsKeptOn s (record { world = y.world; live = m }))
    → IsKeptOn s (record { world = (cond b x y).world; live = cond b l m })
branch-free s true x y l m f g = f refl
branch-free s false x y l m f g = g refl

state-after-free-kept : (s : State) (pointer : ℕ) → Sound s → IsPointerTo s pointer → IsKeptOn s (record { world = (free_of s.world pointer).world; live = live_free s pointer })
unfolding free_of
state-after-free-kept s pointer k c =
    branch-free s (pointer == 0) (record { world = s.world; result = Ok tt }) (free_cases s.world (found_at s.world pointer)) s.live (live_free_cases s.live (found_at s.world pointer))
    (λ t. kept-same s k)
    (λ t. free_by-kept s pointer (found_at s.world pointer) k c (grind (arith, nat_tests)) refl)

realloc_by-kept : (s : State) (pointer size : ℕ) (r : Result Found HeapAbort) → Sound s → IsPointerTo s pointer → pointer ≢ 0 → found_at s.world pointer ≡ r
    → IsKeptOn s (record { world = (checked_realloc_cases s.world size r).world; live = live_realloc_cases s.world s.live size r })
realloc_by-kept s pointer size (Err e) k c n f = kept-same s k
realloc_by-kept s pointer size (Ok g) k c n f = realloc-cases-kept s size k (listed s pointer g k c n f)

branch-realloc : (s : State) (b : Bool) (x y : ReallocResult) (l m : Live) → (b ≡ true → IsKeptOn s (record { world = x.world; live = l })) → (b ≡ false → IsKeptOn s (record { world = y.world; live = m }))
    → IsKeptOn s (record { world = (cond b x y).world; live = cond b l m })
branch-realloc s true x y l m f g = f refl
branch-realloc s false x y l m f g = g refl

state-after-realloc-kept : (s : State) (pointer size : ℕ) → Sound s → IsPointerTo s pointer → IsKeptOn s (record { world = (after_realloc s.world pointer size).world; live = live_realloc s pointer size })
unfolding after_realloc
state-after-realloc-kept s pointer size k c =
    let made = after_malloc s.world size in
    branch-realloc s (pointer == 0) (reallocation_of made) (checked_realloc_cases s.world size (found_at s.world pointer)) (with_made_chunk origin.Malloc s.live made.chunk) (live_realloc_cases s.world s.live size (found_at s.world pointer))
    (λ t. state-after-allocation-kept origin.Malloc s made (malloc-state-after-allocation s size k))
    (λ t. realloc_by-kept s pointer size (found_at s.world pointer) k c (grind (arith, nat_tests)) refl)

pub call-kept : (s : State) (c : HeapCall) → Sound s → IsCareful s c → IsKeptOn s (state_after_call c s)
unfolding after_call state_after_call
call-kept s (Malloc size) k c = state-after-allocation-kept origin.Malloc s _ (malloc-state-after-allocation s size k)
call-kept s (Free pointer) k c = state-after-free-kept s pointer k c
call-kept s (Calloc count size) k c = state-after-allocation-kept origin.Malloc s _ (calloc-state-after-allocation s count size k)
call-kept s (Realloc pointer size) k c = state-after-realloc-kept s pointer size k c
call-kept s (Memalign align size) k c = state-after-allocation-kept origin.Memalign s _ (memalign-state-after-allocation s align size k)
call-kept s (UsableSize pointer) k c = kept-same s k

-- ---- steps and runs

pub quiet-kept : (s t : State) → Sound s → IsQuiet s t → IsKeptOn s t
quiet-kept s t k q =
    let b = blocks-of s k in
    let m = s.world.memory in
    let m' = t.world.memory in
    let same : IsSameTags m m' = record { limit = q.limit; attrs = λ a l. q.attrs (a / 4096); tags = λ a l. q.tags a; high = λ a l. inl (q.tags a); whole = q.whole } in
    let u : State = record { world = record s.world { memory = m'; rgsr = t.world.rgsr }; live = s.live } in
    let is : u ≡ t = λ i. record { world = record { memory = m'; heap = sym q.heap i; rgsr = t.world.rgsr }; live = sym q.live i } in
    let same_heap = sound-same s.world m' k.heap q.attrs q.left in
    let v : IsSoundWorld u.world = record { owned = same_heap.owned; room = same_heap.room; parts = same_heap.parts } in
    let kept : IsKeptOn s u = record {
      sound = state-sound s u k q.mode v (same-tags_sound m m' s.world.heap.stacks s.live.blocks same b) k.large;
      stale = λ f st on. same-tags_stale m m' s.world.heap.stacks f b.stacked same st;
    } in
    subst (IsKeptOn s) is kept

pub step-kept : (s t : State) → Sound s → Step s t → IsKeptOn s t
step-kept s t k (quiet q) = quiet-kept s t k q
step-kept s t k (call c careful e) = subst (IsKeptOn s) (sym e) (call-kept s c k careful)

pub run-sound : {P : State → Type 0} {a b : State} → Run P a b → Sound a → Sound b
run-sound stop k = k
run-sound {P} (next {a = x} {b = y} {c = z} t p r) k = run-sound r (step-kept x y k t).sound

-- what was freed stays as it is while its block is free
pub run-stale : (f : Freed) {a b : State} → Run (HasFree f.place.class f.place.block) a b → Sound a → IsStale a.world.memory a.world.heap.stacks f → IsStale b.world.memory b.world.heap.stacks f
run-stale f stop k st = st
run-stale f (next {a = x} {b = y} {c = z} t p r) k st = let h = step-kept x y k t in run-stale f r h.sound (h.stale f st p)
