-- Between the calls of a session the flag of a tenant that is running is clear: no tag differed in
-- what it did so far.
use Rattle.std.specs.Prelude.{◌≡◌, true, false, List, [], ◌∷◌}
use Rattle.mte_tenant.specs.Machines.{Machine, runs}
use Rattle.mte_sched.specs.Lives.{Session}
use Rattle.mte_sched.specs.Contents.{TenantState, Live, Gone, Tenant}
use Rattle.mte_sched.specs.Isolation.{content_after}

-- The flag of a running machine is clear.
abbrev pub HasClearFlag : Machine → Type 0
HasClearFlag m = runs m ≡ true → m.memory.state.pending ≡ false

-- A tenant that was not stopped has a clear flag.
abbrev pub IsClear : TenantState → Type 0
IsClear (Gone r) = Unit {0}
IsClear (Live m) = HasClearFlag m

-- So it is of all tenants.
abbrev pub AreClear : List Tenant → Type 0
AreClear [] = Unit {0}
AreClear (t ∷ more) = IsClear t.held × AreClear more

-- Between the calls of a session no running tenant has its flag set.
abbrev pub FlagIsClear : Type 0
FlagIsClear = (s : Session) → AreClear (content_after s).tenants
