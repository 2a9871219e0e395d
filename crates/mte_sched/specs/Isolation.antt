-- Isolation of machines: what Behaviours says of every behaviour, of the machine's.
use Rattle.std.specs.Prelude.{◌≡◌, ℕ, List, map}
use Rattle.mte_tenant.specs.Ledger.{Call, ledger_after}
use Rattle.mte_sched.specs.Lives.{Session, Life, Agree, lives}
use Rattle.mte_sched.specs.Behaviours.{HaveTheSame}
use Rattle.mte_sched.specs.Contents.{Content, empty, ledger_of, after_call, after_calls}
use Rattle.mte_sched.specs.Contents.{tenant_of, record_of, machine}
pub use Rattle.mte_sched.specs.Behaviours.{tenant_among}

-- The host of a session after all its calls.
abbrev pub content_after : Session → Content
content_after s = after_calls (empty s.frames) s.calls

-- The tenants cannot change who is admitted: a call changes the ledger as the ledger says.
abbrev pub LedgerFollows : Type 0
LedgerFollows = (c : Content) (e : Call) → ledger_of (after_call c e) ≡ ledger_after (ledger_of c) e

-- Nothing changes the number in a tenant's record.
abbrev pub NumbersStay : Type 0
NumbersStay = (life : Life) → (record_of (tenant_of life).held).id ≡ life.id

-- After every list of calls the tenants are the accepted admissions, each alone.
abbrev pub TenantsAreAlone : Type 0
TenantsAreAlone = (s : Session) → (content_after s).tenants ≡ map tenant_of (lives s)

-- Whatever other tenants there are, and whatever they do.
abbrev pub TenantsAreIsolated : Type 0
TenantsAreIsolated = (id : ℕ) (s t : Session) → Agree id s t → HaveTheSame machine id s t
