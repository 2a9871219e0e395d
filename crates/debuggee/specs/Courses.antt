-- Where a tenant is that runs in slices: after whole slices, and some attempts of the next.
use Rattle.std.specs.Prelude.{◌≡◌, ◌≤◌, ℕ, zero, suc, ◌-◌, min, slice_get, unwrap_or}
use Rattle.mte_tenant.specs.Machines.{Machine, after_attempt, after_attempts, after_slice}
use Rattle.debuggee.specs.declared.cuts.Cuts.{Cuts}

-- The steps of the slice with a number; 0 if there is none.
abbrev pub next_cut : Cuts → ℕ → Machine → ℕ
next_cut c k m =
    min (c.limit - m.parts.history.steps) (unwrap_or (slice_get c.listed.now k) c.others)

-- The machine after a number of whole slices.
unfoldable pub after_slices : Cuts → ℕ → Machine → Machine
after_slices c zero m = m
after_slices c (suc k) m = after_slice (next_cut c k (after_slices c k m)) (after_slices c k m)

-- The machine after a number of attempts of a slice, which has `rest` more steps then.
unfoldable pub after_attempts_of : ℕ → ℕ → Machine → Machine
after_attempts_of zero rest m = m
after_attempts_of (suc n) rest m = (after_attempt rest (after_attempts_of n (suc rest) m)).machine

-- A machine after whole slices and some attempts of the next one, which has `cut` steps.
-- The rest of that slice makes of it what the whole slice makes.
pub record IsAt (c : Cuts) (start : Machine) (slices cut done : ℕ) (m : Machine) : Type 0 where
  pub next : cut ≡ next_cut c slices (after_slices c slices start)
  pub machine : m ≡ after_attempts_of done (cut - done) (after_slices c slices start)
  pub rest : after_attempts (cut - done) m ≡ after_attempts cut (after_slices c slices start)
  pub within : done ≤ cut
