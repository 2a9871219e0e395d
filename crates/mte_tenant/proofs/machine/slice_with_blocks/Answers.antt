use Rattle.std.proofs.Common.{◌≡◌, ◌∙◌, sym, ap, arith}
use Rattle.mte_tenant.specs.Machines.{Machine, machine_of, after_attempts, after_slice_end, after_slice}
use Rattle.mte_tenant.proofs.MachineLemmas.{after-attempts-ended, attempts_none}
use Rattle.mte_tenant.proofs.machine.slice_with_blocks.Goals.{then-loop-left-test+else-is_running, else-loop-left-test}
use Rattle.mte_tenant.proofs.machine.slice_with_blocks.Goals as goal

pub returns-clause-machine : goal.returns-clause-machine
unfolding after_slice
returns-clause-machine g c =
    let last : Machine = machine_of c.loop-left.parts (g.M.Tagged.memory c.loop-left.memory) in
    let done : after_attempts c.loop-left.left last ≡ last = elim c.loop-left-test.branch [
      | then-loop-left-test+else-is_running w ↦ after-attempts-ended c.loop-left.left last (sym w.is_running.ensures ∙ w.if-is_running.false)
      | else-loop-left-test w ↦ attempts_none c.loop-left.left last (omega arith)
    ] in
    c.settle.ensures.machine ∙ ap after_slice_end (sym done ∙ c.loop-left.invariant.rest)

pub loop-left-init : goal.loop-left-init
loop-left-init g c =
    let m = g.M.Tagged.memory c.args.memory.now in
    record {
      rest = ap (λ n. after_attempts n (machine_of c.args.parts.now m)) c.from-left.ensures;
      known = c.begin_run.ensures m;
      found = c.begin-blocks.ensures m;
      ready = c.requires.ready;
      kept = g.met.M.Tagged.kept_same c.args.memory.now;
    }
