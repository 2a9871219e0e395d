-- The results of a service, and how it ends. Its arguments are x0 and x1, its result is x0.
use Rattle.std.specs.Prelude.{ℕ, ◌+◌, ◌%◌, ◌^◌, Bool, true, false, slice_index, slice_set}
use Rattle.mte_tags.specs.Memory.{Memory}
use Rattle.mte_svc.specs.declared.calls.AnsweredCall.{AnsweredCall}
use Rattle.mte_svc.specs.declared.parts.TenantParts.{TenantParts}
use Rattle.mte_svc.specs.declared.record.Status.{Status}
use Rattle.mte_svc.specs.declared.record.Status.TheVariants.{Running}
use Rattle.mte_svc.specs.declared.services.SvcEnd.{SvcEnd}
use Rattle.mte_svc.specs.declared.services.SvcEnd.TheVariants.{Resume}
use Rattle.mte_svc.specs.Calls.{with_call}

-- Whether a tenant is running.
abbrev pub is_running : Status → Bool
is_running Running = true
is_running other = false

-- The results of a service: the parts of the tenant, its memory, and how the service ends.
pub record Served : Type 0 where
  pub parts : TenantParts
  pub memory : Memory
  pub end : SvcEnd

-- The register X with a number.
abbrev pub x_of : TenantParts → ℕ → ℕ
x_of p n = slice_index p.regs.x n

-- The result in x0; the tenant resumes after the SVC.
unfoldable pub with_answer : TenantParts → ℕ → TenantParts
with_answer p value = record p {
  regs = record p.regs { x = slice_set p.regs.x 0 value; pc = (p.regs.pc + 4) % 2 ^ 56 };
}

-- The tenant goes on, with a value in x0.
abbrev pub resume_with : TenantParts → Memory → ℕ → Served
resume_with p m value = record { parts = with_answer p value; memory = m; end = Resume }

-- A service that ends the tenant changes nothing.
abbrev pub ends : TenantParts → Memory → SvcEnd → Served
ends p m end = record { parts = p; memory = m; end = end }

-- A heap call that was answered is entered.
unfoldable pub with_logged_call : TenantParts → AnsweredCall → TenantParts
with_logged_call p call =
    record p { history = record p.history { calls = with_call p.history.calls call } }
