-- A tenant's machine, of terms that the caller lends, to which acts are done, and the report of
-- it.
use Rattle.std.specs.Prelude.{◌≡◌, ℕ, ◌<◌, List, length, slice_index_or, Some, None}
use Rattle.std.specs.Prelude.{Result, Ok, Err, false}
use Rattle.common.specs.Obstacles.{IfRefused}
use Rattle.common.specs.declared.obstacle.Obstacle.{Obstacle}
use Rattle.common.specs.declared.obstacle.Obstacle.TheVariants as obstacle
use Rattle.a64_registers.specs.declared.registers.Regs.{Regs}
use Rattle.mte_tenant.specs.declared.admission.AdmitError.{AdmitError}
use Rattle.mte_tenant.specs.Ledger.{is_bad}
use Rattle.mte_tenant.specs.Machines.{Machine, start_of}
use Rattle.mte_tenant.specs.Alone.{refusal_alone}
use Rattle.tombolopan_c.specs.Machines.{machine_before, act_done}
use Rattle.tombolopan_c.specs.Pages.{IsPageMap}
use Rattle.tombolopan_c.specs.declared.act.MachineAct.{MachineAct}
use Rattle.tombolopan_c.specs.declared.pages.PageEntry.{PageEntry}
use Rattle.tombolopan_c.specs.LentBuffers.{filled}
use Rattle.tombolopan_c.specs.LoneTenants.{Buffers, lent_start, end_without, record_end}
use Rattle.tombolopan_c.specs.LoneTenants.{buffers_after}
use Rattle.tombolopan_c.specs.declared.alone_end.AloneEnd.{AloneEnd}
use Rattle.tombolopan_c.specs.declared.lent_terms.LentTerms.{LentTerms}

-- The machine of a tenant of C before its first instruction.
abbrev pub lent_machine : LentTerms → Machine
lent_machine t = start_of 0 (lent_start t)

-- A tenant is admitted and its machine is what the acts leave, or it is refused. Want of memory
-- never comes instead of a refusal of its reservation.
abbrev pub IsMachine : LentTerms → List MachineAct → Result Machine (Obstacle AdmitError) → Type 0
IsMachine t acts (Ok m) =
    (refusal_alone 0 (lent_start t) ≡ None)
    × ((d : MachineAct) → m ≡ machine_before (lent_machine t) acts (length acts) d)
IsMachine t acts (Err o) =
    IfRefused o (λ e. refusal_alone 0 (lent_start t) ≡ Some e)
    × (o ≡ obstacle.OutOfMemory → is_bad (lent_start t).terms ≡ false)

-- Each act of a machine has its answer.
abbrev pub AreAnswered : LentTerms → List MachineAct → List MachineAct → Type 0
AreAnswered t old new =
    (k : ℕ) (d : MachineAct) → k < length old
    → slice_index_or new k d ≡ act_done (lent_machine t) old k d

-- Each act has its answer, or, where the tenant is not admitted, all are as they were.
abbrev pub HaveAnswers :
    LentTerms → Result Machine (Obstacle AdmitError) → List MachineAct → List MachineAct → Type 0
HaveAnswers t (Ok m) old new = AreAnswered t old new
HaveAnswers t (Err o) old new = new ≡ old

-- The registers in the end.
abbrev pub machine_regs : Result Machine (Obstacle AdmitError) → Regs → Regs
machine_regs (Ok m) old = m.parts.regs
machine_regs (Err o) old = old

-- The contents of the buffers in the end.
abbrev pub machine_buffers : Result Machine (Obstacle AdmitError) → Buffers → Buffers
machine_buffers (Ok m) old = buffers_after m.parts.history old
machine_buffers (Err o) old = old

-- The end of a tenant, or of an admission that is refused.
abbrev pub machine_end : Result Machine (Obstacle AdmitError) → Buffers → AloneEnd
machine_end (Ok m) old = record_end m.parts.history (length old.output) (length old.calls)
machine_end (Err o) old = end_without o

-- The outcome of a tenant's machine is in the acts, the registers, the buffers and in what is
-- reported of its end.
pub record HasActed (t : LentTerms) (acts done : List MachineAct) (r left : Regs)
    (old new : Buffers) (e : AloneEnd) : Type 0 where
  pub answer : Result Machine (Obstacle AdmitError)
  pub is : IsMachine t acts answer
  pub answers : HaveAnswers t answer acts done
  pub regs : left ≡ machine_regs answer r
  pub buffers : new ≡ machine_buffers answer old
  pub told : e ≡ machine_end answer old

-- The pages of a tenant's machine after acts are in an array as far as it goes, and counted.
pub record HasPages (t : LentTerms) (acts : List MachineAct) (old new : List PageEntry)
    (count : ℕ) : Type 0 where
  pub entries : List PageEntry
  pub accepted : refusal_alone 0 (lent_start t) ≡ None
  pub map :
      (d : MachineAct)
      → IsPageMap (machine_before (lent_machine t) acts (length acts) d).memory entries
  pub told : new ≡ filled entries old
  pub counted : count ≡ length entries
