use Rattle.std.proofs.Common.{◌≡◌, ◌-◌, ◌∙◌, suc, true, sym, ap, subst, arith}
use Rattle.mte_svc.specs.Ready.{IsReady}
use Rattle.mte_tenant.specs.Machines.{Machine, machine_of, runs, Attempt, after_attempt, after_attempts}
use Rattle.mte_tenant.proofs.MachineLemmas.{after-attempts-ended, attempts_none}
use Rattle.mte_tenant.proofs.AloneLemmas.{log_ended, log_none, goes_on_next, yielded_next}
use Rattle.mte_tenant.proofs.alone.attempt_all.Goals as goal

pub returns-else-is_running-clause-machine : goal.returns-else-is_running-clause-machine
returns-else-is_running-clause-machine g c =
    sym (after-attempts-ended c.loop-left.left (machine_of c.loop-left.parts (g.M.Tagged.memory c.loop-left.memory)) (sym c.is_running.ensures ∙ c.if-is_running.false))
    ∙ c.loop-left.invariant.rest

pub returns-after-loop-left-clause-machine : goal.returns-after-loop-left-clause-machine
returns-after-loop-left-clause-machine g c =
    sym (attempts_none c.loop-left.left (machine_of c.loop-left.parts (g.M.Tagged.memory c.loop-left.memory)) (omega arith))
    ∙ c.loop-left.invariant.rest

pub returns-else-is_running-clause-shown : goal.returns-else-is_running-clause-shown
returns-else-is_running-clause-shown g c =
    sym (log_ended c.loop-left.left (machine_of c.loop-left.parts (g.M.Tagged.memory c.loop-left.memory)) (g.W.Watch.log c.loop-left.watch) (sym c.is_running.ensures ∙ c.if-is_running.false))
    ∙ c.loop-left.invariant.shown

pub returns-after-loop-left-clause-shown : goal.returns-after-loop-left-clause-shown
returns-after-loop-left-clause-shown g c =
    sym (log_none c.loop-left.left (machine_of c.loop-left.parts (g.M.Tagged.memory c.loop-left.memory)) (g.W.Watch.log c.loop-left.watch) (omega arith))
    ∙ c.loop-left.invariant.shown

pub loop-left-preserved-then-goes_on : goal.loop-left-preserved-then-goes_on
loop-left-preserved-then-goes_on g c =
    let n = c.loop-left.left - 1 in
    let m : Machine = machine_of c.loop-left.parts (g.M.Tagged.memory c.loop-left.memory) in
    let k : Machine = machine_of c.attempt-goes_on.new.parts (g.M.Tagged.memory c.after.new.memory) in
    let a : Attempt = record { machine = machine_of c.attempt-goes_on.new.parts (g.M.Tagged.memory c.attempt-goes_on.new.memory); goes_on = c.attempt-goes_on.result } in
    let some : c.loop-left.left ≡ suc n = omega (arith, c.loop-left-test.true) in
    let running : runs m ≡ true = sym c.is_running.ensures ∙ c.if-is_running.true in
    let is : a ≡ after_attempt n m = c.attempt-goes_on.ensures.machine ∙ ap (λ x. after_attempt n (machine_of c.loop-left.parts x)) c.before-in-loop-left.ensures.memory in
    let next = goes_on_next c.loop-left.left n m k a (g.W.Watch.log c.loop-left.watch) (g.W.Watch.log c.before-in-loop-left.new.self) (g.W.Watch.log c.after.new.self)
    some running is c.before-in-loop-left.ensures.log c.after.ensures.log (ap (machine_of c.attempt-goes_on.new.parts) c.after.ensures.memory) c.if-goes_on.true in
    record {
      rest = next.0 ∙ c.loop-left.invariant.rest;
      shown = next.1 ∙ c.loop-left.invariant.shown;
      ready = subst (IsReady c.attempt-goes_on.new.parts) (sym c.after.ensures.memory) c.attempt-goes_on.ensures.ready;
      kept = g.met.M.Tagged.kept_on _ _ _ c.loop-left.invariant.kept
          (g.met.M.Tagged.kept_on _ _ _ c.before-in-loop-left.ensures.kept (g.met.M.Tagged.kept_on _ _ _ c.attempt-goes_on.ensures.kept c.after.ensures.kept));
    }

pub loop-left-preserved : goal.loop-left-preserved
loop-left-preserved g c =
    let n = c.loop-left.left - 1 in
    let m : Machine = machine_of c.loop-left.parts (g.M.Tagged.memory c.loop-left.memory) in
    let k : Machine = machine_of c.attempt-goes_on.new.parts (g.M.Tagged.memory c.after.new.memory) in
    let a : Attempt = record { machine = machine_of c.attempt-goes_on.new.parts (g.M.Tagged.memory c.attempt-goes_on.new.memory); goes_on = c.attempt-goes_on.result } in
    let some : c.loop-left.left ≡ suc n = omega (arith, c.loop-left-test.true) in
    let running : runs m ≡ true = sym c.is_running.ensures ∙ c.if-is_running.true in
    let is : a ≡ after_attempt n m = c.attempt-goes_on.ensures.machine ∙ ap (λ x. after_attempt n (machine_of c.loop-left.parts x)) c.before-in-loop-left.ensures.memory in
    let next = yielded_next c.loop-left.left n m k a (g.W.Watch.log c.loop-left.watch) (g.W.Watch.log c.before-in-loop-left.new.self) (g.W.Watch.log c.after.new.self)
    some running is c.before-in-loop-left.ensures.log c.after.ensures.log (ap (machine_of c.attempt-goes_on.new.parts) c.after.ensures.memory) c.if-goes_on.false in
    record {
      rest = next.0 ∙ c.loop-left.invariant.rest;
      shown = next.1 ∙ c.loop-left.invariant.shown;
      ready = subst (IsReady c.attempt-goes_on.new.parts) (sym c.after.ensures.memory) c.attempt-goes_on.ensures.ready;
      kept = g.met.M.Tagged.kept_on _ _ _ c.loop-left.invariant.kept
          (g.met.M.Tagged.kept_on _ _ _ c.before-in-loop-left.ensures.kept (g.met.M.Tagged.kept_on _ _ _ c.attempt-goes_on.ensures.kept c.after.ensures.kept));
    }
