use Rattle.std.proofs.Common.{◌∙◌, ap}
use Rattle.mte_tenant.specs.Machines.{machine_of, after_attempts, after_slice, after_slice_end}
use Rattle.mte_tenant.specs.Watched.{with_shown, shown_of}
use Rattle.mte_tenant.proofs.alone.slice_watched.Goals as goal

pub returns-clause-machine : goal.returns-clause-machine
unfolding after_slice
returns-clause-machine g c =
    let m = machine_of c.args.parts.now (g.M.Tagged.memory c.args.memory.now) in
    c.settle.ensures.machine
    ∙ ap after_slice_end (c.attempt_all.ensures.machine ∙ ap (λ n. after_attempts n m) c.from.ensures)

pub returns-clause-shown : goal.returns-clause-shown
returns-clause-shown g c =
    let m = machine_of c.args.parts.now (g.M.Tagged.memory c.args.memory.now) in
    c.attempt_all.ensures.shown
    ∙ ap (λ n. with_shown (g.W.Watch.log c.args.watch.now) (shown_of n m)) c.from.ensures
