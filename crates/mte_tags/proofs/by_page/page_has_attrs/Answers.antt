use Rattle.std.proofs.Common.{◌≡◌, ◌∙◌, ◌/◌, Bool, true, false, not, Option, Some, None, is_some, is_none, ap, refl}
use Rattle.mte_tags.specs.Memory.{page_has}
use Rattle.mte_tags.specs.Accesses.{first_fault, addresses}
use Rattle.mte_tags.specs.declared.fault.MemFault.{MemFault}
use Rattle.mte_tags.proofs.FaultLaws.{first_fault-needing}
use Rattle.mte_tags.proofs.by_page.page_has_attrs.Goals as goal

none : (o : Option MemFault) (b : Bool) → is_some o ≡ not b → b ≡ is_none o
none None false e = cc
none None true e = refl
none (Some f) false e = refl
none (Some f) true e = cc

pub returns-clause-answer : goal.returns-clause-answer
returns-clause-answer g c =
    let m = g.S.PageStore.memory c.args.store.now in
    none c.fault_of_run.result c.is_none.result c.is_none.ensures
    ∙ ap is_none (c.fault_of_run.ensures.answer ∙ ap (λ x. first_fault m x (addresses c.plain-at.result 1)) c.needing-access.ensures)
    ∙ first_fault-needing m c.args.attrs.0 c.plain-at.result
    ∙ ap (λ a. page_has m (a / 4096) c.args.attrs.0) c.plain-at.ensures

pub returns-then-contains-clause-answer : goal.returns-then-contains-clause-answer
returns-then-contains-clause-answer g c =
    c.code_has_attrs.ensures.answer
    ∙ ap (λ a. page_has (g.S.PageStore.memory c.args.store.now) (a / 4096) c.args.attrs.0) c.plain-at.ensures
