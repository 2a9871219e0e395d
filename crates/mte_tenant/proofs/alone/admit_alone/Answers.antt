use Rattle.std.proofs.Common.{◌∙◌, ◌/◌, ◌^◌, ap, arith}
use Rattle.scudo_heap.specs.Heaps.{empty_heap}
use Rattle.scudo_heap.specs.Served.{HeapOwnsItsPages}
use Rattle.mte_svc.specs.declared.parts.TenantParts.{TenantParts}
use Rattle.mte_tags.specs.Memory.{Memory}
use Rattle.mte_tenant.specs.Machines.{machine_of, start_of, first_parts}
use Rattle.mte_tenant.specs.Admissions.{start_in}
use Rattle.mte_tenant.proofs.FirstLemmas.{first_ready}
use Rattle.mte_tenant.proofs.alone.admit_alone.Goals as goal

pub returns-clause-machine : goal.returns-clause-machine
unfolding start_of
returns-clause-machine g c =
    let a = c.args.admission.now in
    ap (λ (p : TenantParts). machine_of p (g.M.Tagged.memory c.fill.new.memory)) c.in_ok-parts.ensures
    ∙ ap (λ (m : Memory). machine_of (first_parts a.id (start_in a)) m) c.fill.ensures.memory

pub returns-clause-ready : goal.returns-clause-ready
returns-clause-ready g c =
    let a = c.args.admission.now in
    let m = g.M.Tagged.memory c.fill.new.memory in
    let served : HeapOwnsItsPages m (empty_heap (a.terms.seed / 2 ^ 32) a.terms.pages) =
    c.condition_of_calls.ensures.first m (a.terms.seed / 2 ^ 32) a.terms.pages (omega (arith, c.fill.ensures.limit)) c.fill.ensures.untouched in
    first_ready a.id (start_in a) c.in_ok-parts.parts m c.in_ok-parts.ensures served
