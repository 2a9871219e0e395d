-- The start of a tenant, by its admission.
use Rattle.mte_tenant.specs.declared.admission.Admission.{Admission}
use Rattle.mte_tenant.specs.Machines.{Start}

-- The start of a tenant of this admission.
abbrev pub start_in : Admission → Start
start_in a = record { image = a.image.now; input = a.input.now; terms = a.terms }
