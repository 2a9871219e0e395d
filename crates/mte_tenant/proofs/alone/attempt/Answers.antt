use Rattle.std.proofs.Common.{◌∙◌, ap}
use Rattle.mte_tags.specs.Memory.{attrs_at, pages_left}
use Rattle.mte_tenant.specs.Machines.{Attempt, machine_of}
use Rattle.mte_tenant.proofs.AloneLemmas.{one_some, one_none}
use Rattle.mte_tenant.proofs.alone.attempt.Goals as goal

pub returns-in-Some-clause-machine : goal.returns-in-Some-clause-machine
returns-in-Some-clause-machine g c =
    let a : Attempt = record { machine = machine_of c.handle.new.parts (g.M.Tagged.memory c.handle.new.memory); goes_on = c.handle.result } in
    one_some c.args.left (machine_of c.args.parts.now (g.M.Tagged.memory c.args.memory.now)) a c.run-stop.result c.run-stop.new.regs (g.M.Tagged.memory c.run-stop.new.memory) c.in-Some.outcome _
    c.run-stop.ensures.stop c.run-stop.ensures.regs c.run-stop.ensures.memory c.in-Some.is c.saturating_add-parts.ensures c.handle.ensures.machine

pub returns-in-None-clause-machine : goal.returns-in-None-clause-machine
returns-in-None-clause-machine g c =
    one_none c.args.left (machine_of c.args.parts.now (g.M.Tagged.memory c.args.memory.now)) c.run-stop.result c.run-stop.new.regs (g.M.Tagged.memory c.run-stop.new.memory) _
    c.run-stop.ensures.stop c.run-stop.ensures.regs c.run-stop.ensures.memory c.in-None.is c.saturating_add-parts.ensures

pub handle-requires : goal.handle-requires
handle-requires g c = record {
  ready = record {
    heap =
        c.condition_of_calls.ensures.same (g.M.Tagged.memory c.args.memory.now) (g.M.Tagged.memory c.run-stop.new.memory) c.args.parts.now.heap c.requires.ready.heap
        (λ q. ap (λ m. attrs_at m q) c.run-stop.ensures.memory ∙ c.steps_keep_pages.ensures.run_attrs 1 c.args.parts.now.regs (g.M.Tagged.memory c.args.memory.now) q)
        (ap pages_left c.run-stop.ensures.memory ∙ c.steps_keep_pages.ensures.run_left 1 c.args.parts.now.regs (g.M.Tagged.memory c.args.memory.now));
    tag = c.run-stop.ensures.tag c.requires.ready.tag;
  };
}

pub returns-in-None-clause-ready : goal.returns-in-None-clause-ready
returns-in-None-clause-ready g c = record {
  heap =
      c.condition_of_calls.ensures.same (g.M.Tagged.memory c.args.memory.now) (g.M.Tagged.memory c.run-stop.new.memory) c.args.parts.now.heap c.requires.ready.heap
      (λ q. ap (λ m. attrs_at m q) c.run-stop.ensures.memory ∙ c.steps_keep_pages.ensures.run_attrs 1 c.args.parts.now.regs (g.M.Tagged.memory c.args.memory.now) q)
      (ap pages_left c.run-stop.ensures.memory ∙ c.steps_keep_pages.ensures.run_left 1 c.args.parts.now.regs (g.M.Tagged.memory c.args.memory.now));
  tag = c.run-stop.ensures.tag c.requires.ready.tag;
}
