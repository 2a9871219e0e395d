use Rattle.std.proofs.Common.{◌≡◌, ◌<◌, None, false}
use Rattle.tombolopan.specs.Traces.{IsTraced, arrays}
use Rattle.tombolopan.proofs.traced_run.run_traced.Given as goal

-- what is left and entered is what the steps so far leave, and the run has not ended
abbrev pub invariant-loop : goal.invariant-loop
invariant-loop g l = record {
  traced :
      IsTraced l.fn.request l.fn.regs (g.M.Tagged.memory l.fn.memory)
      (arrays l.fn.instructions l.fn.accesses)
      l.progress.end l.regs (g.M.Tagged.memory l.memory) (arrays l.instructions l.accesses);
  request : l.progress.request.now ≡ l.fn.request;
  steps : l.progress.end.steps ≡ l.counter;
  running : l.progress.end.outcome ≡ None;
  passing : l.progress.end.reached ≡ false;
  empty : l.progress.end.full ≡ false;
  tag : l.fn.regs.rgsr.tag < 16 → l.regs.rgsr.tag < 16;
  kept : g.M.Tagged.kept l.fn.memory l.memory;
}
