use Rattle.std.proofs.Common.{◌∙◌, ap}
use Rattle.mte_svc.specs.Services.{service_cases, after_svc}
use Rattle.mte_svc.proofs.services.serve.Goals as goal

pub returns-in-Some-clause-served : goal.returns-in-Some-clause-served
unfolding after_svc
returns-in-Some-clause-served g c =
    c.call_heap.ensures.served
    ∙ ap (λ o. service_cases o c.args.parts.now (g.M.Tagged.memory c.args.memory.now)) c.in-Some.ensures

pub returns-in-None-clause-served : goal.returns-in-None-clause-served
unfolding after_svc
returns-in-None-clause-served g c =
    c.serve_other.ensures.served
    ∙ ap (λ o. service_cases o c.args.parts.now (g.M.Tagged.memory c.args.memory.now)) c.in-None.ensures
