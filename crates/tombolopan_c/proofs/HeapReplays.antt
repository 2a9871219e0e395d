-- The steps of a list in order, and the first step that is none.
use Rattle.std.proofs.Common.{◌≡◌, ℕ, suc, ◌+◌, ◌<◌, ◌≤◌, ◌∙◌, List, [], ◌∷◌, length, drop, get_or, set, true, false, if◌then◌else◌, refl, sym, ap, subst, arith}
use Rattle.std.proofs.lemmas.List.{drop_all}
use Rattle.std.proofs.lemmas.Option.{slice_get-get_or}
use Rattle.std.proofs.Math.Seq.{drop-cons}
use Rattle.scudo_heap.specs.Placing.{World}
use Rattle.tombolopan_c.specs.HeapReplays.{Replay, MadeStep, replayed, replay_cases, step_made, is_step, bad_from}
use Rattle.tombolopan_c.specs.declared.lent_step.HeapStep.{HeapStep}

pub replayed_start : (w : World) (steps : List HeapStep) → replayed w steps 0 ≡ record { world = w; steps = steps }
unfolding replayed
replayed_start w steps = refl

-- the step k in the list that those before it have left
pub replayed_next : (w : World) (steps : List HeapStep) (k : ℕ) (d : HeapStep) → k < length (replayed w steps k).steps
    → replayed w steps (k + 1)
    ≡ record {
      world = (step_made (replayed w steps k).world (replayed w steps k).steps (get_or (replayed w steps k).steps k d)).world;
      steps = set (replayed w steps k).steps k (step_made (replayed w steps k).world (replayed w steps k).steps (get_or (replayed w steps k).steps k d)).step;
    }
unfolding replayed
replayed_next w steps k d h =
    let p = replayed w steps k in
    let next : k + 1 ≡ suc k = omega arith in
    ap (λ n. replayed w steps n) next ∙ ap (λ o. replay_cases p k o) (slice_get-get_or p.steps k d h)

-- a step that is made on what those before it have left
pub replayed_more : (w : World) (old : List HeapStep) (k : ℕ) (bench : World) (steps : List HeapStep) (d : HeapStep)
    → bench ≡ (replayed w old k).world → steps ≡ (replayed w old k).steps → k < length steps
    → (after : World) (made : HeapStep) → after ≡ (step_made bench steps (get_or steps k d)).world → made ≡ (step_made bench steps (get_or steps k d)).step
    → (after ≡ (replayed w old (k + 1)).world) × (set steps k made ≡ (replayed w old (k + 1)).steps)
replayed_more w old k bench steps d e f h after made x y =
    let p = replayed w old k in
    let same : step_made bench steps (get_or steps k d) ≡ step_made p.world p.steps (get_or p.steps k d) =
    ap (λ b. step_made b steps (get_or steps k d)) e ∙ ap (λ xs. step_made p.world xs (get_or xs k d)) f in
    let next = replayed_next w old k d (subst (λ xs. k < length xs) f h) in
    let step = (step_made p.world p.steps (get_or p.steps k d)).step in (
      x ∙ ap (λ (m : MadeStep). m.world) same ∙ sym (ap (λ (q : Replay). q.world) next),
      ap (λ s. set steps k s) (y ∙ ap (λ (m : MadeStep). m.step) same) ∙ ap (λ xs. set xs k step) f ∙ sym (ap (λ (q : Replay). q.steps) next),
    )

bad_cons : (steps more : List HeapStep) (k : ℕ) (s : HeapStep) → bad_from steps k (s ∷ more) ≡ (if is_step steps k s then bad_from steps (k + 1) more else k + 1)
unfolding bad_from
bad_cons steps more k s = refl

-- a step that may be taken is passed over
pub bad_next : (steps : List HeapStep) (k : ℕ) (d : HeapStep) → k < length steps → is_step steps k (get_or steps k d) ≡ true
    → bad_from steps k (drop k steps) ≡ bad_from steps (k + 1) (drop (k + 1) steps)
bad_next steps k d h good =
    let next : suc k ≡ k + 1 = omega arith in
    let more = drop (suc k) steps in
    ap (bad_from steps k) (drop-cons steps k d h)
    ∙ bad_cons steps more k (get_or steps k d)
    ∙ ap (λ b. if b then bad_from steps (k + 1) more else k + 1) good
    ∙ ap (λ n. bad_from steps (k + 1) (drop n steps)) next

-- a step that is none is told
pub bad_here : (steps : List HeapStep) (k : ℕ) (d : HeapStep) → k < length steps → is_step steps k (get_or steps k d) ≡ false → bad_from steps k (drop k steps) ≡ k + 1
bad_here steps k d h bad =
    ap (bad_from steps k) (drop-cons steps k d h)
    ∙ bad_cons steps (drop (suc k) steps) k (get_or steps k d)
    ∙ ap (λ b. if b then bad_from steps (k + 1) (drop (suc k) steps) else k + 1) bad

bad_nil : (steps : List HeapStep) (k : ℕ) → bad_from steps k [] ≡ 0
unfolding bad_from
bad_nil steps k = refl

-- after the last step there is none
pub bad_none : (steps : List HeapStep) (k : ℕ) → length steps ≤ k → bad_from steps k (drop k steps) ≡ 0
bad_none steps k h = ap (bad_from steps k) (drop_all k steps h) ∙ bad_nil steps k
