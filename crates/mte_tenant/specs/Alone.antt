-- A tenant alone after slices.
use Rattle.std.specs.Prelude.{ℕ, List, [], ◌∷◌, Option}
use Rattle.mte_svc.specs.declared.record.Record.{Record}
use Rattle.mte_tenant.specs.declared.admission.AdmitError.{AdmitError}
use Rattle.mte_tenant.specs.Ledger.{admission_refusal, charge_of}
use Rattle.mte_tenant.specs.Machines.{Machine, Start, start_of, after_slice}

-- Slices in order, each with the most steps that it has.
unfoldable pub after_slices : Machine → List ℕ → Machine
after_slices m [] = m
after_slices m (n ∷ more) = after_slices (after_slice n m) more

-- The record of a tenant at the end of its slices.
abbrev pub record_after : ℕ → Start → List ℕ → Record
record_after id start slices = (after_slices (start_of id start) slices).parts.history

-- Why a tenant is refused by a host that has no other and just the frames that it is charged.
abbrev pub refusal_alone : ℕ → Start → Option AdmitError
refusal_alone id start = admission_refusal (charge_of start.terms.pages) [] id start
