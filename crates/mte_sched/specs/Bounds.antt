-- How many instructions a slice attempts.
use Rattle.std.specs.Prelude.{◌≡◌, ℕ, ◌+◌, ◌≤◌, Some}
use Rattle.mte_svc.specs.declared.record.Record.{Record}
use Rattle.mte_tenant.specs.Machines.{Machine, after_slice}
use Rattle.mte_sched.specs.Contents.{Content, after_slice_of}
use Rattle.mte_sched.specs.Views.{record_among}

-- A slice of n steps raises the count of attempted instructions by at most n.
abbrev pub SlicesAreBounded : Type 0
SlicesAreBounded =
    (n : ℕ) (m : Machine) → (after_slice n m).parts.history.steps ≤ m.parts.history.steps + n

-- A slice of n steps raises the count in the record of a host's tenant by at most n.
abbrev pub TurnsAreBounded : Type 0
TurnsAreBounded =
    (id n : ℕ) (c : Content) (before after : Record)
    → record_among id c.tenants ≡ Some before
    → record_among id (after_slice_of c id n).tenants ≡ Some after
    → after.steps ≤ before.steps + n
