-- A debugged tenant: its admission, how its run is cut into slices, and where
-- it is.
use Rattle.std.specs.Prelude.{ℕ, ◌-◌, ◌==◌, ◌&&◌, Bool, nat_lt}
use Rattle.mte_svc.specs.Results.{is_running}
use Rattle.mte_tenant.specs.declared.admission.Admission.{Admission}
use Rattle.mte_tenant.specs.Machines.{Machine, machine_of, after_attempt}
use Rattle.debuggee.specs.declared.cuts.Cuts.{Cuts}
use Rattle.debuggee.specs.declared.tenant.Debuggee.{Debuggee}

-- The tenant's admission.
abbrev pub admission_of : Debuggee → Admission
admission_of d = d.admission

-- How its run is cut into slices.
abbrev pub cuts_of : Debuggee → Cuts
cuts_of d = d.cuts

-- Its machine.
abbrev pub machine_in : Debuggee → Machine
machine_in d = machine_of d.parts d.memory.flat

-- How many instructions it has attempted.
abbrev pub steps_of : Debuggee → ℕ
steps_of d = d.parts.history.steps

-- Its machine after one more attempt of its slice.
abbrev pub after_one : Debuggee → Machine
after_one d = (after_attempt (d.cut - d.done - 1) (machine_in d)).machine

-- It is running, and its slice has a step left.
abbrev pub can_attempt : Debuggee → Bool
can_attempt d =
    is_running d.parts.history.status && nat_lt d.done d.cut && nat_lt d.slices 18446744073709551615

-- It is running, and a slice comes next of which no step was attempted.
abbrev pub can_begin : Debuggee → Bool
can_begin d = can_attempt d && (d.done == 0)

-- The steps of the slice that goes on or comes next.
abbrev pub cut_of : Debuggee → ℕ
cut_of d = d.cut

-- How many of that slice's steps it has attempted.
abbrev pub done_of : Debuggee → ℕ
done_of d = d.done

-- How many of its slices have ended.
abbrev pub slices_of : Debuggee → ℕ
slices_of d = d.slices
