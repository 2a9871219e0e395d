use Rattle.std.proofs.Common.{◌∙◌, sym}
use Rattle.mte_svc.proofs.CallLemmas.{answered_from, aborted_from}
use Rattle.mte_svc.proofs.heap_services.call_heap.Goals as goal

pub returns-in-Ok-clause-served : goal.returns-in-Ok-clause-served
returns-in-Ok-clause-served g c =
    answered_from c.args.parts.now c.enter.new.self (g.M.Tagged.memory c.args.memory.now) c.args.call c.in-Ok.answer
    (g.M.Tagged.memory c.call.new.memory) c.call.new.self c.call.new.rgsr c.call.ensures.world (sym c.in-Ok.is ∙ c.call.ensures.answer) c.enter.ensures.parts

pub returns-in-Err-clause-served : goal.returns-in-Err-clause-served
returns-in-Err-clause-served g c =
    aborted_from c.args.parts.now (g.M.Tagged.memory c.args.memory.now) c.args.call c.in-Err.abort
    (g.M.Tagged.memory c.call.new.memory) c.call.new.self c.call.new.rgsr c.call.ensures.world (sym c.in-Err.is ∙ c.call.ensures.answer)
