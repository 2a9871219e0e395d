-- A tenant alone on a tagged memory: its first machine, what an attempted instruction and a service
-- make of it.
use Rattle.std.specs.Prelude.{ℕ, zero, suc, ◌+◌, ◌/◌, ◌%◌, ◌^◌, min, Bool, true, false}
use Rattle.std.specs.Prelude.{List, [], if◌then◌else◌, ◌&&◌}
use Rattle.common.specs.declared.limits.TheConstants.{PAGE_SIZE}
use Rattle.common.specs.declared.ranges.TheConstants.{STACK_START, STACK_END, STACK_PAGES}
use Rattle.a64_registers.specs.declared.registers.Regs.{Regs}
use Rattle.a64_step.specs.declared.outcome.Outcome.{Outcome}
use Rattle.a64_step.specs.declared.outcome.Outcome.TheVariants as outcome
use Rattle.a64_registers.specs.Registers.{fresh}
use Rattle.a64_step.specs.Steps.{step_of}
use Rattle.tenant_terms.specs.declared.Terms.{Terms}
use Rattle.mte_tags.specs.declared.state.TagMode.{TagMode}
use Rattle.mte_tags.specs.Memory.{Memory, no_pages, with_new_pages, data_attrs}
use Rattle.mte_elf.specs.Headers.{segments_of, entry_of}
use Rattle.mte_elf.specs.Loading.{with_segments}
use Rattle.scudo_heap.specs.Heaps.{empty_heap}
use Rattle.mte_svc.specs.Results.{Served, is_running}
use Rattle.mte_svc.specs.Services.{after_svc}
use Rattle.mte_svc.specs.declared.parts.TenantParts.{TenantParts}
use Rattle.mte_svc.specs.declared.record.Status.{Status}
use Rattle.mte_svc.specs.declared.record.Status.TheVariants.{Running, Exited, Faulted, Illegal}
use Rattle.mte_svc.specs.declared.record.Status.TheVariants.{Breakpoint, AsyncTag, Aborted, Stopped}
use Rattle.mte_svc.specs.declared.services.SvcEnd.{SvcEnd}
use Rattle.mte_svc.specs.declared.services.SvcEnd.TheVariants as end

-- All that a tenant is, wherever its memory is kept.
pub record Machine : Type 0 where
  pub parts : TenantParts
  pub memory : Memory

-- A machine of its parts and its memory.
abbrev pub machine_of : TenantParts → Memory → Machine
machine_of p m = record { parts = p; memory = m }

-- Whether a machine is running.
abbrev pub runs : Machine → Bool
runs m = is_running m.parts.history.status

-- A machine with another status.
abbrev pub with_status : Machine → Status → Machine
with_status m s =
    record m { parts = record m.parts { history = record m.parts.history { status = s } } }

-- ---- the first machine

-- The start of a tenant: its image, its input, and the terms of its admission.
pub record Start : Type 0 where
  pub image : List ℕ
  pub input : List ℕ
  pub terms : Terms

-- All registers are 0 but SP and PC; the seed's low 16 bits are RGSR_EL1.SEED, the next four
-- RGSR_EL1.TAG, and its high 32 bits the cookie of the heap.
unfoldable pub first_registers : ℕ → ℕ → Regs
first_registers entry seed = record (fresh entry STACK_END) {
  rgsr = record { tag = seed / 65536 % 16; seed = seed % 65536 };
}

-- The pages of an image and those of a stack, of a reservation of `pages`.
unfoldable pub first_memory : List ℕ → ℕ → TagMode → Memory
first_memory image pages mode =
    with_new_pages (with_segments image (no_pages pages mode) (segments_of image))
    (STACK_START / PAGE_SIZE) STACK_PAGES data_attrs

-- The parts of a tenant before its first instruction.
unfoldable pub first_parts : ℕ → Start → TenantParts
first_parts id start = record {
  history = record {
    id = id;
    status = Running;
    steps = 0;
    output = record { bytes = []; left = start.terms.room };
    calls = record { last = []; count = 0 };
  };
  regs = first_registers (entry_of start.image) start.terms.seed;
  heap = empty_heap (start.terms.seed / 2 ^ 32) start.terms.pages;
  input = start.input;
  left = 0;
}

-- The machine of a tenant before its first instruction.
unfoldable pub start_of : ℕ → Start → Machine
start_of id start =
    machine_of (first_parts id start) (first_memory start.image start.terms.pages start.terms.mode)

-- ---- an attempted instruction

-- The machine after it, and whether the slice continues.
pub record Attempt : Type 0 where
  pub machine : Machine
  pub goes_on : Bool

-- An attempt after which the slice goes on.
abbrev pub continues : Machine → Attempt
continues m = record { machine = m; goes_on = true }

-- How a service ends: by a yield the slice does not go on.
abbrev pub after_service : SvcEnd → Machine → Attempt
after_service end.Resume m = continues m
after_service end.Yield m = record { machine = m; goes_on = false }
after_service (end.Exit code) m = continues (with_status m (Exited code))
after_service (end.Fault fault) m = continues (with_status m (Faulted fault m.parts.regs.pc))
after_service (end.Abort abort pointer) m =
    continues (with_status m (Aborted abort pointer m.parts.regs.pc))

-- An attempt that a service ended.
abbrev pub with_service : Served → Attempt
with_service s = after_service s.end (machine_of s.parts s.memory)

-- A tag differed in the asynchronous mode: PC is that of an SVC or of the next instruction.
abbrev pub stop_by_tag : Machine → Machine
stop_by_tag m = with_status m (AsyncTag m.parts.regs.pc)

-- The machine after an instruction's outcome. An SVC is served where the flag is clear.
unfoldable pub after_outcome : Outcome → Machine → Attempt
after_outcome outcome.Next m = continues m
after_outcome outcome.Svc m =
    if m.memory.state.pending
    then continues (stop_by_tag m)
    else with_service (after_svc m.parts m.memory)
after_outcome (outcome.Fault fault) m = continues (with_status m (Faulted fault m.parts.regs.pc))
after_outcome (outcome.Illegal word) m = continues (with_status m (Illegal word m.parts.regs.pc))
after_outcome (outcome.Breakpoint number) m =
    continues (with_status m (Breakpoint number m.parts.regs.pc))

-- n more instructions were attempted, and `left` steps of the slice are left; the count of steps
-- stops at 2^64 - 1.
abbrev pub with_steps : ℕ → ℕ → TenantParts → TenantParts
with_steps n left p = record p {
  history = record p.history { steps = min (p.history.steps + n) 18446744073709551615 };
  left = left;
}

-- Parts with other registers.
abbrev pub with_regs : TenantParts → Regs → TenantParts
with_regs p regs = record p { regs = regs }

-- One attempted instruction, after which `left` steps of the slice are left.
unfoldable pub after_attempt : ℕ → Machine → Attempt
after_attempt left m =
    let step = step_of m.parts.regs m.memory in
    after_outcome step.outcome
    (machine_of (with_steps 1 left (with_regs m.parts step.regs)) step.memory)

-- ---- a slice

-- At most n attempted instructions, while it is running and has not yielded.
unfoldable pub after_attempts : ℕ → Machine → Machine
after_attempts zero m = m
after_attempts (suc n) m =
    let a = after_attempt n m in
    if runs m then (if a.goes_on then after_attempts n a.machine else a.machine) else m

-- Where the flag is set at the end of a slice, a tenant that is still running ends.
abbrev pub stop_if_pending : Machine → Machine
stop_if_pending m = if runs m && m.memory.state.pending then stop_by_tag m else m

-- The end of a slice, after which no steps of it are left.
unfoldable pub after_slice_end : Machine → Machine
after_slice_end m = stop_if_pending (record m { parts = record m.parts { left = 0 } })

-- A slice: at most n attempted instructions, and its end.
unfoldable pub after_slice : ℕ → Machine → Machine
after_slice n m = after_slice_end (after_attempts n m)

-- ---- a stop

-- Stopped where it is running.
unfoldable pub after_stop : Machine → Machine
after_stop m = if runs m then with_status m Stopped else m
