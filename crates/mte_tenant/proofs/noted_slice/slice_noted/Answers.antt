use Rattle.std.proofs.Common.{◌∙◌, ap}
use Rattle.mte_tenant.specs.Machines.{machine_of, after_attempts, after_slice_end, after_slice}
use Rattle.mte_tenant.proofs.noted_slice.slice_noted.Goals as goal

pub returns-clause-machine : goal.returns-clause-machine
unfolding after_slice
returns-clause-machine g c =
    c.settle.ensures.machine
    ∙ ap after_slice_end (c.attempt_all.ensures.machine ∙ c.loop-left.invariant.rest)

pub loop-left-init : goal.loop-left-init
loop-left-init g c =
    let m = g.M.Tagged.memory c.args.memory.now in
    record {
      rest = ap (λ n. after_attempts n (machine_of c.args.parts.now m)) c.from-left.ensures;
      known = c.begin_run.ensures m;
      ready = c.requires.ready;
      kept = g.met.M.Tagged.kept_same c.args.memory.now;
    }
