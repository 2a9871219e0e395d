-- Heap calls in a list whose arguments may be answers of earlier calls of the list.
use Rattle.std.specs.Prelude.{ℕ, zero, suc, ◌+◌, ◌-◌, ◌%◌, ◌^◌, ◌==◌, ◌&&◌, ◌||◌, Bool, not, nat_le}
use Rattle.std.specs.Prelude.{◌≡◌, List, [], ◌∷◌, length, Option, Some, None, is_some, slice_get, slice_set}
use Rattle.std.specs.Prelude.{if◌then◌else◌}
use Rattle.scudo_heap.specs.Placing.{World}
use Rattle.tombolopan_c.specs.Pages.{IsPageMap}
use Rattle.tombolopan_c.specs.declared.pages.PageEntry.{PageEntry}
use Rattle.tombolopan_c.specs.HeapCalls.{op_of, after_heap_call, with_bad_argument, start_of}
use Rattle.tombolopan_c.specs.LentBuffers.{filled}
use Rattle.tombolopan_c.specs.declared.codes.TheConstants.{OK, FREE, STORE}
use Rattle.tombolopan_c.specs.declared.lent_heap.HeapSetup.{HeapSetup}
use Rattle.tombolopan_c.specs.declared.lent_heap.LentHeapCall.{LentHeapCall}
use Rattle.tombolopan_c.specs.declared.lent_step.HeapStep.{HeapStep}

-- ---- references

-- The number that a call that was made adds to an argument: its answer, where it has one.
abbrev pub answer_added : ℕ → Option HeapStep → Option ℕ
answer_added own None = None
answer_added own (Some s) =
    if s.call.code == OK then Some ((own + s.call.answer) % 2 ^ 64) else None

-- An argument, by the number of the call that it refers to, 0 for none.
abbrev pub argument_of : List HeapStep → ℕ → ℕ → Option ℕ
argument_of steps of own =
    if of == 0 then Some own else answer_added own (slice_get steps (of - 1))

-- A call with its two arguments.
abbrev pub with_arguments : LentHeapCall → Option ℕ → Option ℕ → Option LentHeapCall
with_arguments c (Some a) (Some b) = Some (record c { first = a; second = b })
with_arguments c a b = None

-- The call of a step, its references replaced, where each gave an answer.
abbrev pub resolved_call : List HeapStep → HeapStep → Option LentHeapCall
resolved_call steps s =
    with_arguments s.call
    (argument_of steps s.first_of s.call.first)
    (argument_of steps s.second_of s.call.second)

-- ---- which steps are taken

-- A call whose answer may be referred to, from the step with the index k.
abbrev pub gives : ℕ → ℕ → Option HeapStep → Bool
gives k of None = nat_le 1 0
gives k of (Some s) = nat_le of k && not (s.call.op == FREE) && not (s.call.op == STORE)

-- A reference of the step with the index k: none, or to an earlier call that has an answer.
abbrev pub is_reference : List HeapStep → ℕ → ℕ → Bool
is_reference steps k of = of == 0 || gives k of (slice_get steps (of - 1))

-- A step with the index k may be taken.
abbrev pub is_step : List HeapStep → ℕ → HeapStep → Bool
is_step steps k s =
    is_some (op_of s.call)
    && is_reference steps k s.first_of && is_reference steps k s.second_of

-- The number of the first of the steps from the index k on that is none, or 0.
unfoldable pub bad_from : List HeapStep → ℕ → List HeapStep → ℕ
bad_from steps k [] = 0
bad_from steps k (s ∷ more) =
    if is_step steps k s then bad_from steps (k + 1) more else k + 1

-- The number of the first step that is none, from 1 on, or 0.
abbrev pub first_bad : List HeapStep → ℕ
first_bad steps = bad_from steps 0 steps

-- ---- steps in order

-- The result of a step: the world, and the step with its answer.
pub record MadeStep : Type 0 where
  pub world : World
  pub step : HeapStep

-- A step with the answer of a call.
abbrev pub with_call : HeapStep → LentHeapCall → HeapStep
with_call s c =
    record s { call = record s.call { code = c.code; answer = c.answer; fault = c.fault } }

abbrev pub step_cases : World → HeapStep → Option LentHeapCall → MadeStep
step_cases w s None = record { world = w; step = with_call s (with_bad_argument s.call) }
step_cases w s (Some c) = record {
  world = (after_heap_call w c).world;
  step = with_call s (after_heap_call w c).call;
}

-- The effect of a step on a world, after the steps of a list.
abbrev pub step_made : World → List HeapStep → HeapStep → MadeStep
step_made w steps s = step_cases w s (resolved_call steps s)

-- A world and the list, of whose steps some are made.
pub record Replay : Type 0 where
  pub world : World
  pub steps : List HeapStep

abbrev pub replay_cases : Replay → ℕ → Option HeapStep → Replay
replay_cases p k None = p
replay_cases p k (Some s) = record {
  world = (step_made p.world p.steps s).world;
  steps = slice_set p.steps k (step_made p.world p.steps s).step;
}

-- The world after the first k steps.
unfoldable pub replayed : World → List HeapStep → ℕ → Replay
replayed w steps zero = record { world = w; steps = steps }
replayed w steps (suc k) =
    replay_cases (replayed w steps k) k (slice_get (replayed w steps k).steps k)

-- The pages of a heap after all steps are in an array as far as it goes, and counted.
pub record HasHeapPages (s : HeapSetup) (steps : List HeapStep) (old new : List PageEntry)
    (count : ℕ) : Type 0 where
  pub entries : List PageEntry
  pub map : IsPageMap (replayed (start_of s) steps (length steps)).world.memory entries
  pub told : new ≡ filled entries old
  pub counted : count ≡ length entries
