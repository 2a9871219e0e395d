-- The live chunks after the calls of a list, call by call.
use Rattle.std.proofs.Common.{◌≡◌, ℕ, suc, ◌+◌, ◌<◌, ◌∙◌, List, [], length, get_or, refl, sym, ap, arith}
use Rattle.std.specs.Prelude.{Option}
use Rattle.std.proofs.lemmas.Option.{slice_get-get_or}
use Rattle.tombolopan_c.specs.HeapReplays.{resolved_call}
use Rattle.tombolopan_c.specs.LiveChunks.{Chunks, after_step, after_resolved, live_after}
use Rattle.tombolopan_c.specs.declared.lent_heap.LentHeapCall.{LentHeapCall}
use Rattle.tombolopan_c.specs.declared.lent_step.HeapStep.{HeapStep}

pub live_start : (steps : List HeapStep) → live_after steps 0 ≡ []
unfolding live_after
live_start steps = refl

-- the call k, by its place from 0 on
pub live_next : (steps : List HeapStep) (k : ℕ) (d : HeapStep) → k < length steps
    → live_after steps (k + 1) ≡ after_resolved (live_after steps k) (k + 1) (resolved_call steps (get_or steps k d))
unfolding live_after
live_next steps k d h =
    let next : k + 1 ≡ suc k = omega arith in
    ap (λ n. live_after steps n) next ∙ ap (λ o. after_step steps (live_after steps k) (k + 1) o) (slice_get-get_or steps k d h)

-- a call that is entered after those before it
pub live_more : (steps : List HeapStep) (k : ℕ) (d : HeapStep) → k < length steps → (es : Chunks) → es ≡ live_after steps k
    → (o : Option LentHeapCall) → o ≡ resolved_call steps (get_or steps k d) → after_resolved es (k + 1) o ≡ live_after steps (k + 1)
live_more steps k d h es e o f =
    ap (λ xs. after_resolved xs (k + 1) o) e
    ∙ ap (λ c. after_resolved (live_after steps k) (k + 1) c) f
    ∙ sym (live_next steps k d h)
