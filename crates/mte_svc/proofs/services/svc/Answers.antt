use Rattle.std.proofs.Common.{ap, sym, subst}
use Rattle.mte_tags.specs.Fixed.{KeepsFixed}
use Rattle.mte_svc.specs.Results.{Served}
use Rattle.mte_svc.proofs.services.svc.Goals as goal

pub returns-clause-fixed : goal.returns-clause-fixed
returns-clause-fixed g c =
    let m = g.M.Tagged.memory c.args.memory.now in
    subst (KeepsFixed m) (sym (ap (λ (s : Served). s.memory) c.serve.ensures.served))
    (c.services_keep_fixed_pages.ensures c.args.parts.now m c.requires.ready.heap c.recall.ensures)
