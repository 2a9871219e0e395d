use Rattle.std.proofs.Common.{◌≡◌, ◌∙◌, arith, ap}
use Rattle.mte_tags.specs.Memory.{attrs_at, pages_left}
use Rattle.a64_step.specs.declared.outcome.Stop.{Stop}
use Rattle.mte_tenant.specs.Machines.{Attempt, machine_of, after_attempts}
use Rattle.mte_tenant.proofs.MachineLemmas.{left_le, left_lt, rest_of, after_last}
use Rattle.mte_tenant.proofs.machine.run_on.Goals as goal

pub overflow_sub-left : goal.overflow_sub-left
overflow_sub-left g c =
    let s = ap (λ (t : Stop). t.left) c.run-rest.ensures.stop in
    let h = left_le c.args.left c.args.parts.now.regs (g.M.Tagged.memory c.args.memory.now) in
    omega (arith, s, h)

pub returns-then-handle-clause-rest : goal.returns-then-handle-clause-rest
returns-then-handle-clause-rest g c =
    let a : Attempt = record { machine = machine_of c.handle.new.parts (g.M.Tagged.memory c.handle.new.memory); goes_on = c.handle.result } in
    let all : rest_of c.run-rest.result a ≡ after_attempts c.args.left (machine_of c.args.parts.now (g.M.Tagged.memory c.args.memory.now)) =
    after_last c.args.left (machine_of c.args.parts.now (g.M.Tagged.memory c.args.memory.now)) a c.run-rest.new.outcome c.run-rest.result c.run-rest.new.regs (g.M.Tagged.memory c.run-rest.new.memory) _
    c.run-rest.ensures.stop c.run-rest.ensures.regs c.run-rest.ensures.memory c.saturating_add-parts.ensures c.handle.ensures.machine c.requires.running (omega arith) c.requires.some in
    rw (c.if-handle.true) at all

pub returns-then-handle-clause-fewer : goal.returns-then-handle-clause-fewer
returns-then-handle-clause-fewer g c =
    let s = ap (λ (t : Stop). t.left) c.run-rest.ensures.stop in
    let h = left_lt c.args.left c.args.parts.now.regs (g.M.Tagged.memory c.args.memory.now) c.requires.some in
    omega (arith, s, h)

pub returns-else-handle-clause-rest : goal.returns-else-handle-clause-rest
unfolding after_attempts
returns-else-handle-clause-rest g c =
    let a : Attempt = record { machine = machine_of c.handle.new.parts (g.M.Tagged.memory c.handle.new.memory); goes_on = c.handle.result } in
    let all : rest_of c.run-rest.result a ≡ after_attempts c.args.left (machine_of c.args.parts.now (g.M.Tagged.memory c.args.memory.now)) =
    after_last c.args.left (machine_of c.args.parts.now (g.M.Tagged.memory c.args.memory.now)) a c.run-rest.new.outcome c.run-rest.result c.run-rest.new.regs (g.M.Tagged.memory c.run-rest.new.memory) _
    c.run-rest.ensures.stop c.run-rest.ensures.regs c.run-rest.ensures.memory c.saturating_add-parts.ensures c.handle.ensures.machine c.requires.running (omega arith) c.requires.some in
    rw (c.if-handle.false) at all

pub handle-requires : goal.handle-requires
handle-requires g c = record {
  ready = record {
    heap =
        c.condition_of_calls.ensures.same (g.M.Tagged.memory c.args.memory.now) (g.M.Tagged.memory c.run-rest.new.memory) c.args.parts.now.heap c.requires.ready.heap
        (λ q. ap (λ m. attrs_at m q) c.run-rest.ensures.memory ∙ c.steps_keep_pages.ensures.run_attrs c.args.left c.args.parts.now.regs (g.M.Tagged.memory c.args.memory.now) q)
        (ap pages_left c.run-rest.ensures.memory ∙ c.steps_keep_pages.ensures.run_left c.args.left c.args.parts.now.regs (g.M.Tagged.memory c.args.memory.now));
    tag = c.run-rest.ensures.tag c.requires.ready.tag;
  };
}

pub returns-then-handle-clause-known : goal.returns-then-handle-clause-known
returns-then-handle-clause-known g c =
    c.known_words_stay.ensures (g.M.Tagged.memory c.run-rest.new.memory) (g.M.Tagged.memory c.handle.new.memory) c.run-rest.new.kept c.handle.ensures.fixed c.run-rest.ensures.known

pub returns-else-handle-clause-known : goal.returns-else-handle-clause-known
returns-else-handle-clause-known g c =
    c.known_words_stay.ensures (g.M.Tagged.memory c.run-rest.new.memory) (g.M.Tagged.memory c.handle.new.memory) c.run-rest.new.kept c.handle.ensures.fixed c.run-rest.ensures.known

pub returns-then-handle-clause-found : goal.returns-then-handle-clause-found
returns-then-handle-clause-found g c =
    g.met.T.CompiledBlocks.stays c.run-rest.new.self (g.M.Tagged.memory c.run-rest.new.memory) (g.M.Tagged.memory c.handle.new.memory) c.handle.ensures.fixed c.run-rest.ensures.found

pub returns-else-handle-clause-found : goal.returns-else-handle-clause-found
returns-else-handle-clause-found g c =
    g.met.T.CompiledBlocks.stays c.run-rest.new.self (g.M.Tagged.memory c.run-rest.new.memory) (g.M.Tagged.memory c.handle.new.memory) c.handle.ensures.fixed c.run-rest.ensures.found
