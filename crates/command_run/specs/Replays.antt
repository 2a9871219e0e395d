-- The replay of one tenant of a session.
use Rattle.std.specs.Prelude.{◌≡◌, ℕ, ◌<◌, List, Option, Some, None, ⊤}
use Rattle.mte_tenant.specs.Machines.{Machine, machine_of, start_of, after_slice, after_stop}
use Rattle.mte_tenant.specs.Ledger.{Call, Admit, Slice, Stop}
use Rattle.mte_sched.specs.Lives.{Session, Life, lives, life_among}
use Rattle.mte_sched.specs.Contents.{TenantState, Live, Gone, tenant_of}
use Rattle.mte_session.specs.Sessions.{file_at}
use Rattle.command_run.specs.declared.replay.Replayed.{Replayed}

-- The machine that was replayed.
abbrev pub machine_in : Replayed → Machine
machine_in t = machine_of t.bench.parts t.bench.memory

-- The machine of a live tenant is what is kept of it; of one that was stopped its record is.
abbrev pub IsOf : TenantState → Machine → Type 0
IsOf (Live m) n = n ≡ m
IsOf (Gone r) n = n.parts.history ≡ r

-- The session admits a tenant with the number, whose image is the file, and after its own events
-- it is this one.
pub record IsTenant (id : ℕ) (files : List (List ℕ)) (s : Session) (t : Replayed) : Type 0 where
  pub life : Life
  pub admitted : life_among id (lives s) ≡ Some life
  pub image : file_at files t.image ≡ life.start.image
  pub machine : IsOf (tenant_of life).held (machine_in t)

-- The tenant with a number, or none where the session never admits it.
abbrev pub IsReplay : ℕ → List (List ℕ) → Session → Option Replayed → Type 0
IsReplay id files s (Some t) = IsTenant id files s t
IsReplay id files s None = life_among id (lives s) ≡ None

-- ---- one event

-- The number of the tenant that a call names.
abbrev pub number_in : Call → ℕ
number_in (Admit id start) = id
number_in (Slice id n) = id
number_in (Stop id) = id

-- The same call, whose slice attempts no instruction.
abbrev pub with_no_steps : Call → Call
with_no_steps (Admit id start) = Admit id start
with_no_steps (Slice id n) = Slice id 0
with_no_steps (Stop id) = Stop id

-- The machine of the tenant that an accepted call names, after the call.
abbrev pub machine_after : Call → Machine → Machine
machine_after (Admit id start) m = m
machine_after (Slice id n) m = after_slice n m
machine_after (Stop id) m = after_stop m

-- An admission reserves a page at least, as each that a host accepts does.
abbrev pub HasPages : Call → Type 0
HasPages (Admit id start) = 0 < start.terms.pages
HasPages (Slice id n) = ⊤
HasPages (Stop id) = ⊤

-- An admission makes a tenant at its first instruction, and no other call makes one.
abbrev pub IsStarted : List (List ℕ) → Call → Option Replayed → Type 0
IsStarted files (Admit id start) (Some t) =
    (machine_in t ≡ start_of id start) × (file_at files t.image ≡ start.image)
IsStarted files (Admit id start) None = ⊥
IsStarted files (Slice id n) t = t ≡ None
IsStarted files (Stop id) t = t ≡ None

-- The tenant that an accepted call names, after the call.
abbrev pub IsPlayed : List (List ℕ) → Call → Option Replayed → Option Replayed → Type 0
IsPlayed files e (Some t) (Some u) =
    (machine_in u ≡ machine_after e (machine_in t)) × (u.image ≡ t.image)
IsPlayed files e (Some t) None = ⊥
IsPlayed files e None u = IsStarted files e u
