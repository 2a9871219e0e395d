use Rattle.std.proofs.Common.{◌≡◌, ◌∙◌, ◌-◌, ◌+◌, ◌≤◌, ◌<◌, refl, sym, ap, subst, arith}
use Rattle.a64_step.specs.declared.outcome.Stop.{Stop}
use Rattle.a64_run.specs.OpCaches.{Knows}
use Rattle.mte_svc.specs.Ready.{IsReady}
use Rattle.mte_tenant.specs.Machines.{Machine, Attempt, machine_of, continues, after_outcome, after_attempts}
use Rattle.mte_tenant.proofs.MachineLemmas.{left_le, left_lt, rest_of, after_part}
use Rattle.mte_tenant.proofs.noted_slice.run_noted.Goals as goal

pub overflow_add-rest : goal.overflow_add-rest
overflow_add-rest g c =
    let s = ap (λ (t : Stop). t.left) c.run_by_table-unused.ensures.stop in
    let h = left_le c.min-most.result c.args.parts.now.regs (g.M.Tagged.memory c.args.memory.now) in
    omega (arith, s, h)

pub overflow_sub-made : goal.overflow_sub-made
overflow_sub-made g c =
    let s = ap (λ (t : Stop). t.left) c.run_by_table-unused.ensures.stop in
    let h = left_le c.min-most.result c.args.parts.now.regs (g.M.Tagged.memory c.args.memory.now) in
    omega (arith, s, h)

pub overflow_sub-made-2 : goal.overflow_sub-made-2
overflow_sub-made-2 g c =
    let s = ap (λ (t : Stop). t.left) c.run_by_table-unused.ensures.stop in
    let h = left_lt c.min-most.result c.args.parts.now.regs (g.M.Tagged.memory c.args.memory.now) (omega arith) in
    omega (arith, s, h)

pub returns-in-Next-clause-fewer : goal.returns-in-Next-clause-fewer
returns-in-Next-clause-fewer g c =
    let s = ap (λ (t : Stop). t.left) c.run_by_table-unused.ensures.stop in
    let h = left_lt c.min-most.result c.args.parts.now.regs (g.M.Tagged.memory c.args.memory.now) (omega arith) in
    omega (arith, s, h)

pub returns-in-Next-clause-rest : goal.returns-in-Next-clause-rest
unfolding after_outcome
returns-in-Next-clause-rest g c =
    let n = c.min-most.result in
    let rest = c.args.left - n + c.run_by_table-unused.result in
    let memory = g.M.Tagged.memory c.pass.new.memory in
    let after : Machine = machine_of
    (record c.args.parts.now {
      history = record c.args.parts.now.history { steps = c.saturating_add-parts.result };
      regs = c.run_by_table-unused.new.regs;
      left = rest;
    })
    memory in
    after_part (c.args.left - n) n rest c.args.left (machine_of c.args.parts.now (g.M.Tagged.memory c.args.memory.now)) (continues after)
    c.run_by_table-unused.new.outcome c.run_by_table-unused.result c.run_by_table-unused.new.regs memory c.saturating_add-parts.result
    refl (omega arith) c.run_by_table-unused.ensures.stop c.run_by_table-unused.ensures.regs (c.pass.ensures.memory ∙ c.run_by_table-unused.ensures.memory)
    c.saturating_add-parts.ensures (rw c.in-Next.is refl) c.requires.running (omega arith) (omega arith)

pub returns-then-goes_on : goal.returns-then-goes_on
returns-then-goes_on g c =
    let n = c.min-most.result in
    let rest = c.args.left - n + c.run_by_table-unused.result in
    let ops = c.run_by_table-unused.new.ops in
    let first = g.M.Tagged.memory c.before-2.new.memory in
    let last = g.M.Tagged.memory c.handle-goes_on.new.memory in
    let stays = c.before-2.ensures.memory ∙ c.pass-2.ensures.memory in
    let s = ap (λ (t : Stop). t.left) c.run_by_table-unused.ensures.stop in
    let some = left_lt n c.args.parts.now.regs (g.M.Tagged.memory c.args.memory.now) (omega arith) in
    let a : Attempt = record { machine = machine_of c.handle-goes_on.new.parts last; goes_on = c.handle-goes_on.result } in
    let all : rest_of rest a ≡ after_attempts c.args.left (machine_of c.args.parts.now (g.M.Tagged.memory c.args.memory.now)) =
    after_part (c.args.left - n) n rest c.args.left (machine_of c.args.parts.now (g.M.Tagged.memory c.args.memory.now)) a
    c.run_by_table-unused.new.outcome c.run_by_table-unused.result c.run_by_table-unused.new.regs first c.saturating_add-parts-3.result
    refl (omega arith) c.run_by_table-unused.ensures.stop c.run_by_table-unused.ensures.regs (stays ∙ c.run_by_table-unused.ensures.memory)
    (omega (arith, s, some)) c.handle-goes_on.ensures.machine c.requires.running (omega arith) (omega arith) in
    record {
      rest = ap (λ m. after_attempts rest (machine_of c.handle-goes_on.new.parts m)) c.after.ensures.memory ∙ rw (c.if-goes_on.true) at all;
      known =
          subst (λ m. Knows m ops) (sym c.after.ensures.memory)
          (c.known_words_stay.ensures first last ops c.handle-goes_on.ensures.fixed
          (subst (λ m. Knows m ops) (sym stays) c.run_by_table-unused.ensures.known));
      fewer = omega (arith, s, some);
      ready = subst (IsReady c.handle-goes_on.new.parts) (sym c.after.ensures.memory) c.handle-goes_on.ensures.ready;
      kept = g.met.M.Tagged.kept_on _ _ _ c.run_by_table-unused.ensures.kept
          (g.met.M.Tagged.kept_on _ _ _ c.pass-2.ensures.kept
          (g.met.M.Tagged.kept_on _ _ _ c.before-2.ensures.kept
          (g.met.M.Tagged.kept_on _ _ _ c.handle-goes_on.ensures.kept c.after.ensures.kept)));
    }

pub returns-else-goes_on : goal.returns-else-goes_on
unfolding after_attempts
returns-else-goes_on g c =
    let n = c.min-most.result in
    let rest = c.args.left - n + c.run_by_table-unused.result in
    let ops = c.run_by_table-unused.new.ops in
    let first = g.M.Tagged.memory c.before-2.new.memory in
    let last = g.M.Tagged.memory c.handle-goes_on.new.memory in
    let stays = c.before-2.ensures.memory ∙ c.pass-2.ensures.memory in
    let s = ap (λ (t : Stop). t.left) c.run_by_table-unused.ensures.stop in
    let some = left_lt n c.args.parts.now.regs (g.M.Tagged.memory c.args.memory.now) (omega arith) in
    let a : Attempt = record { machine = machine_of c.handle-goes_on.new.parts last; goes_on = c.handle-goes_on.result } in
    let all : rest_of rest a ≡ after_attempts c.args.left (machine_of c.args.parts.now (g.M.Tagged.memory c.args.memory.now)) =
    after_part (c.args.left - n) n rest c.args.left (machine_of c.args.parts.now (g.M.Tagged.memory c.args.memory.now)) a
    c.run_by_table-unused.new.outcome c.run_by_table-unused.result c.run_by_table-unused.new.regs first c.saturating_add-parts-3.result
    refl (omega arith) c.run_by_table-unused.ensures.stop c.run_by_table-unused.ensures.regs (stays ∙ c.run_by_table-unused.ensures.memory)
    (omega (arith, s, some)) c.handle-goes_on.ensures.machine c.requires.running (omega arith) (omega arith) in
    record {
      rest = ap (machine_of c.handle-goes_on.new.parts) c.after.ensures.memory ∙ rw (c.if-goes_on.false) at all;
      known =
          subst (λ m. Knows m ops) (sym c.after.ensures.memory)
          (c.known_words_stay.ensures first last ops c.handle-goes_on.ensures.fixed
          (subst (λ m. Knows m ops) (sym stays) c.run_by_table-unused.ensures.known));
      fewer = omega arith;
      ready = subst (IsReady c.handle-goes_on.new.parts) (sym c.after.ensures.memory) c.handle-goes_on.ensures.ready;
      kept = g.met.M.Tagged.kept_on _ _ _ c.run_by_table-unused.ensures.kept
          (g.met.M.Tagged.kept_on _ _ _ c.pass-2.ensures.kept
          (g.met.M.Tagged.kept_on _ _ _ c.before-2.ensures.kept
          (g.met.M.Tagged.kept_on _ _ _ c.handle-goes_on.ensures.kept c.after.ensures.kept)));
    }
