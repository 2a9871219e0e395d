-- A machine that is kept between calls: its setup, and its runs.
use Rattle.std.specs.Prelude.{◌≡◌, ◌⊎◌, ℕ, Bool, true, false, not, Option, Some, None}
use Rattle.std.specs.Prelude.{◌==◌, List, length, if◌then◌else◌}
use Rattle.common.specs.Obstacles.{IfRefused}
use Rattle.common.specs.declared.obstacle.Obstacle.{Obstacle}
use Rattle.common.specs.declared.obstacle.Obstacle.TheVariants as obstacle
use Rattle.mte_tenant.specs.declared.admission.AdmitError.{AdmitError}
use Rattle.mte_tenant.specs.Ledger.{is_bad}
use Rattle.mte_tenant.specs.Machines.{Machine, machine_of, start_of}
use Rattle.mte_tags.specs.Accesses.{read_bytes, read_fault}
use Rattle.heap_bounds.specs.declared.bounds.Trespass.{Trespass}
use Rattle.heap_bounds.specs.declared.bounds.Trespass.TheVariants.{PastSize, Freed, NoChunk}
use Rattle.tenant_snapshot.specs.Snapshots.{with_input}
use Rattle.tenant_snapshot.specs.declared.exact_watch.ExactFinding.{ExactFinding}
use Rattle.tenant_snapshot.specs.declared.tenant.SnapshotTenant.{SnapshotTenant}
use Rattle.mte_tenant.specs.Alone.{after_slices, refusal_alone}
use Rattle.tombolopan_c.specs.declared.codes.TheConstants as code
use Rattle.tombolopan_c.specs.Faults.{fault_code}
use Rattle.tombolopan_c.specs.LoneTenants.{lent_start, end_without, told_end, without_tenant}
use Rattle.tombolopan_c.specs.declared.alone_end.AloneEnd.{AloneEnd}
use Rattle.tombolopan_c.specs.declared.fuzz_answer.FuzzAnswer.{FuzzAnswer}
use Rattle.tombolopan_c.specs.declared.fuzz_answer.FuzzFinding.{FuzzFinding}
use Rattle.tombolopan_c.specs.declared.fuzz_input.LentFuzzInput.{LentFuzzInput}
use Rattle.tombolopan_c.specs.declared.lent_terms.LentTerms.{LentTerms}

-- The machine as it is now.
abbrev pub now_of : SnapshotTenant → Machine
now_of s = machine_of s.parts s.memory.now

-- The machine to which it is restored.
abbrev pub saved_of : SnapshotTenant → Machine
saved_of s = machine_of s.saved s.memory.saved

-- ---- the setup

-- The machine after the setup of a tenant that is admitted.
abbrev pub set_up : LentTerms → Machine
set_up t = after_slices (start_of 0 (lent_start t)) t.slices.now

-- The handle after a setup, and the report of it. Memory that runs out never comes instead of
-- a refusal of the reservation.
abbrev pub HasSaved : LentTerms → Option SnapshotTenant → AloneEnd → Type 0
HasSaved t (Some s) e =
    (refusal_alone 0 (lent_start t) ≡ None) × (now_of s ≡ set_up t) × (saved_of s ≡ set_up t)
    × (e ≡ told_end code.OK (set_up t).parts.history)
HasSaved t None e =
    (o : Obstacle AdmitError) × IfRefused o (λ r. refusal_alone 0 (lent_start t) ≡ Some r)
    × (o ≡ obstacle.OutOfMemory → is_bad (lent_start t).terms ≡ false) × (e ≡ end_without o)

-- ---- a run

-- The machine after a run: that of the setup with another input, after the run's slices.
abbrev pub after_run : LentFuzzInput → Machine → Machine
after_run r saved = after_slices (with_input saved r.input.now) r.slices.now

-- The machine after a run, and the report of it; the test says whether the run may be done.
abbrev pub HasAnswered :
    LentFuzzInput → Bool → SnapshotTenant → SnapshotTenant → AloneEnd → Type 0
HasAnswered r true old new e =
    ((now_of new ≡ after_run r (saved_of old)) × (e ≡ told_end code.OK new.parts.history))
    ⊎ ((now_of new ≡ now_of old) × (e ≡ without_tenant code.OUT_OF_MEMORY code.NO_REFUSAL))
HasAnswered r false old new e =
    (now_of new ≡ now_of old) × (e ≡ without_tenant code.BAD_ARGUMENT code.NO_REFUSAL)

-- The handle after a run. The snapshot stays. The test says whether what is lent has lengths that
-- it may have.
abbrev pub HasRun :
    LentFuzzInput → Bool → Option SnapshotTenant → Option SnapshotTenant → AloneEnd → Type 0
HasRun r fits None new e =
    (new ≡ None) × (e ≡ without_tenant code.NO_MACHINE code.NO_REFUSAL)
HasRun r fits (Some old) new e =
    (s : SnapshotTenant) × (new ≡ Some s) × (saved_of s ≡ saved_of old)
    × HasAnswered r fits old s e

-- ---- the memory that a run left

-- The handle after bytes are read, the answer and the buffer. The machine stays.
abbrev pub HasRead :
    ℕ → Option SnapshotTenant → Option SnapshotTenant → List ℕ → List ℕ → ℕ → Type 0
HasRead addr None new old_bytes bytes answer =
    (new ≡ None) × (answer ≡ code.NO_MACHINE) × (bytes ≡ old_bytes)
HasRead addr (Some old) new old_bytes bytes answer =
    (s : SnapshotTenant) × (new ≡ Some s) × (now_of s ≡ now_of old) × (saved_of s ≡ saved_of old)
    × (answer ≡ fault_code (read_fault old.memory.now addr (length old_bytes) false))
    × (bytes ≡ (if answer == code.OK then read_bytes old.memory.now addr (length old_bytes)
    else old_bytes))

-- ---- what an exact run found

-- The number of what an access does that a chunk's bounds forbid.
abbrev pub trespass_code : Trespass → ℕ
trespass_code PastSize = code.PAST_SIZE
trespass_code Freed = code.FREED
trespass_code NoChunk = code.NO_CHUNK

-- The report of no finding.
abbrev pub no_finding : FuzzFinding
no_finding = record {
  step = 0;
  pc = 0;
  addr = 0;
  pointer = 0;
  size = 0;
  kind = 0;
  write = 0;
  missed = 0;
  unused = 0;
}

-- The report of what was found, if anything was; the test says whether each chunk was entered.
abbrev pub finding_told : Option ExactFinding → Bool → FuzzFinding
finding_told None complete = record no_finding { missed = if not complete then 1 else 0 }
finding_told (Some f) complete = record {
  step = f.step;
  pc = f.pc;
  addr = f.addr;
  pointer = f.span.addr;
  size = f.span.bytes;
  kind = trespass_code f.trespass;
  write = if f.span.is_write then 1 else 0;
  missed = if not complete then 1 else 0;
  unused = 0;
}

-- The report where no run was done.
abbrev pub answer_without : ℕ → FuzzAnswer
answer_without c = record { end = without_tenant c code.NO_REFUSAL; finding = no_finding }
