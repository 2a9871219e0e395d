-- A tenant's machine through careful instructions, with its live chunks next to it.
--     state_of m l         the state of the machine m with the live chunks l
--     next_call m          the heap call of the next instruction, if it is a service of the heap
--     live_after m l       the live chunks after the next attempted instruction
--     IsCarefulNext m l    the next instruction stores no tags, and a heap call of it is careful
--     IsCareful n m l      so are the next n, while the machine runs and has not yielded
--     live_through n m l   the live chunks after them
use Rattle.std.specs.Prelude.{◌≡◌, ℕ, zero, suc, true, false, Option, Some, None}
use Rattle.std.specs.Prelude.{if◌then◌else◌}
use Rattle.a64_step.specs.declared.outcome.Outcome.{Outcome}
use Rattle.a64_step.specs.declared.outcome.Outcome.TheVariants as outcome
use Rattle.a64_step.specs.Steps.{step_of, next_stores_tags}
use Rattle.scudo_heap.specs.Placing.{world_of}
use Rattle.scudo_heap.specs.declared.call.HeapCall.{HeapCall}
use Rattle.mte_svc.specs.HeapServices.{heap_call_in}
use Rattle.mte_tenant.specs.Machines.{Machine, machine_of, with_regs, runs, after_attempt}
use Rattle.mte_laws.specs.CarefulRuns.{State, Live, state_after_call}
use Rattle.mte_laws.specs.CarefulRuns as heap

-- The world of a machine, and the live chunks in it.
abbrev pub state_of : Machine → Live → State
state_of m l = record { world = world_of m.memory m.parts.heap m.parts.regs.rgsr; live = l }

-- The machine after the next instruction, before a service of it.
abbrev pub before_service : Machine → Machine
before_service m =
    machine_of (with_regs m.parts (step_of m.parts.regs m.memory).regs)
    (step_of m.parts.regs m.memory).memory

-- The heap call of a service; one that finds the flag set is not served.
abbrev pub call_at : Outcome → Machine → Option HeapCall
call_at outcome.Svc m = if m.memory.state.pending then None else heap_call_in m.parts
call_at other m = None

-- The heap call of the next instruction.
unfoldable pub next_call : Machine → Option HeapCall
next_call m = call_at (step_of m.parts.regs m.memory).outcome (before_service m)

abbrev pub live_after_cases : Option HeapCall → State → Live
live_after_cases None s = s.live
live_after_cases (Some c) s = (state_after_call c s).live

-- The live chunks after an attempt.
unfoldable pub live_after : Machine → Live → Live
live_after m l = live_after_cases (next_call m) (state_of (before_service m) l)

-- The next instruction stores no tags, and its heap call, if it makes one, is careful.
pub record IsCarefulNext (m : Machine) (l : Live) : Type 0 where
  pub tags : next_stores_tags m.parts.regs m.memory ≡ false
  pub call : (c : HeapCall) → next_call m ≡ Some c
      → heap.IsCareful (state_of (before_service m) l) c

-- ---- instructions in turn

-- The live chunks after a slice.
unfoldable pub live_through : ℕ → Machine → Live → Live
live_through zero m l = l
live_through (suc n) m l = if runs m
    then (if (after_attempt n m).goes_on
    then live_through n (after_attempt n m).machine (live_after m l)
    else live_after m l)
    else l

-- All instructions of a slice are careful.
unfoldable pub IsCareful : ℕ → Machine → Live → Type 0
IsCareful zero m l = Unit {0}
IsCareful (suc n) m l = (runs m ≡ true → IsCarefulNext m l)
    × (runs m ≡ true → (after_attempt n m).goes_on ≡ true
    → IsCareful n (after_attempt n m).machine (live_after m l))

-- ---- instructions in turn, with P after each of them

-- Careful attempts, after each of which P holds.
pub data Steps (P : State → Type 0) : Machine → Live → Machine → Live → Type 0 where
  stop : {m : Machine} {l : Live} → Steps P m l m l
  next :
      {m k : Machine} {l j : Live} → (n : ℕ) → IsCarefulNext m l
      → P (state_of (after_attempt n m).machine (live_after m l))
      → Steps P (after_attempt n m).machine (live_after m l) k j → Steps P m l k j
