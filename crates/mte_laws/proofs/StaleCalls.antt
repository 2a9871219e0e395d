-- Calls that name a pointer go by its address alone.
use Rattle.std.proofs.Common.{◌≡◌, ◌≢◌, ℕ, None, Ok, refl, sym, ap, ◌∙◌, inl}
use Rattle.std.proofs.lemmas.Bool.{cond-false, cond-true}
use Rattle.std.specs.Cmp.{nat_cmp_total}
use Rattle.std.specs.FinMap.{get-remove}
use Rattle.a64_bits.specs.Addresses.{plain}
use Rattle.mte_tags.proofs.Pages.{tied_same}
use Rattle.scudo_heap.specs.declared.call.HeapCall.TheVariants.{Free, Realloc, UsableSize}
use Rattle.scudo_heap.specs.Placing.{World}
use Rattle.scudo_heap.specs.Checks.{check_pointer, usable_size_cases}
use Rattle.scudo_heap.specs.Freeing.{free_cases, free_of, usable_size_of}
use Rattle.scudo_heap.specs.Realloc.{checked_realloc_cases, after_realloc}
use Rattle.scudo_heap.specs.Calls.{call_of_free, call_of_reallocation, after_call}
use Rattle.mte_laws.specs.LiveChunks.{BlockChunk, chunk_at, without_chunk}
use Rattle.mte_laws.specs.CarefulRuns.{State, state_after_call, live_free_cases, IsLiveBlock, stop}
use Rattle.mte_laws.specs.SoundHeaps.{Sound}
use Rattle.mte_laws.specs.Discipline.{Deallocation}
use Rattle.mte_laws.specs.StaleCalls.{StaleCallsAreServed}
use Rattle.mte_laws.proofs.Freeings.{named, not-null}
use Rattle.mte_laws.proofs.Disciplines.{not-zero, freed-free, freed-blocks}
use Rattle.mte_laws.proofs.FreedHeaders.{double-frees}

free-same : (w : World) (a b : ℕ) → a ≢ 0 → b ≢ 0 → plain a ≡ plain b → after_call w (Free a) ≡ after_call w (Free b)
unfolding after_call free_of
free-same w a b m n e =
    ap call_of_free (cond-false _ _ _ (not-null a m) ∙ ap (λ u. free_cases w (check_pointer w.memory w.heap u)) e ∙ sym (cond-false _ _ _ (not-null b n)))

realloc-same : (w : World) (a b size : ℕ) → a ≢ 0 → b ≢ 0 → plain a ≡ plain b → after_call w (Realloc a size) ≡ after_call w (Realloc b size)
unfolding after_call after_realloc
realloc-same w a b size m n e =
    ap call_of_reallocation (cond-false _ _ _ (not-null a m) ∙ ap (λ u. checked_realloc_cases w size (check_pointer w.memory w.heap u)) e ∙ sym (cond-false _ _ _ (not-null b n)))

size-same : (w : World) (a b : ℕ) → a ≢ 0 → b ≢ 0 → plain a ≡ plain b → after_call w (UsableSize a) ≡ after_call w (UsableSize b)
unfolding after_call usable_size_of
size-same w a b m n e =
    ap (λ r. record { world = w; answer = r }) (cond-false _ _ _ (not-null a m) ∙ ap (λ u. usable_size_cases (check_pointer w.memory w.heap u)) e ∙ sym (cond-false _ _ _ (not-null b n)))

answered : (s : State) (pointer : ℕ) (x : BlockChunk) → Sound s → IsLiveBlock s (plain pointer) x → (after_call s.world (Free pointer)).answer ≡ Ok 0
unfolding after_call free_of
answered s pointer x k l =
    let none = not-null pointer (not-zero s pointer x k l) in
    ap (λ r. (call_of_free r).answer) (cond-false _ _ _ none ∙ ap (free_cases s.world) (named s pointer x k l).1)

gone : (s : State) (pointer : ℕ) (x : BlockChunk) → Sound s → IsLiveBlock s (plain pointer) x → chunk_at (state_after_call (Free pointer) s).live.blocks (plain pointer) ≡ None
unfolding state_after_call chunk_at without_chunk
gone s pointer x k l =
    let none = not-null pointer (not-zero s pointer x k l) in
    let user = k.placed.user (plain pointer) x l.live in
    ap (λ l. chunk_at l.blocks (plain pointer)) (cond-false _ _ _ none ∙ ap (live_free_cases s.live) (named s pointer x k l).1)
    ∙ ap (λ u. chunk_at (without_chunk s.live.blocks u) (plain pointer)) user
    ∙ get-remove nat_cmp_total s.live.blocks (plain pointer) (plain pointer) ∙ cond-true _ _ _ (tied_same (plain pointer))

freed : (s : State) (pointer : ℕ) (x : BlockChunk) → Sound s → IsLiveBlock s (plain pointer) x → Deallocation s
freed s pointer x k l = record { pointer = pointer; call = Free pointer; chunk = x; live = l; may = inl refl; free = freed-free s pointer x k l }

pub stale-calls : StaleCallsAreServed
unfolding freed
stale-calls = record {
  one = λ w a b m n e. record { free = free-same w a b m n e; realloc = λ size. realloc-same w a b size m n e; usable_size = size-same w a b m n e };
  freed = λ s pointer x k l. record {
    answer = answered s pointer x k l;
    gone = gone s pointer x k l;
    free = freed-free s pointer x k l;
    lost = freed-blocks s (state_after_call (Free pointer) s) (freed s pointer x k l) k stop;
    aborted = λ owner same. double-frees.direct s (freed s pointer x k l) owner k same;
  };
}
