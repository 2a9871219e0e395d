use Rattle.std.proofs.Common.{◌≡◌, ◌-◌, ◌<◌}
use Rattle.tombolopan_c.specs.RunsUntil.{run_until_of}
use Rattle.tombolopan_c.proofs.run_until.run_until.Given as goal

-- the run of what is left from here is the run from the start
abbrev pub invariant-loop-i : goal.invariant-loop-i
invariant-loop-i g l = record {
  rest :
      run_until_of (l.steps - l.i) l.stops l.regs (g.M.Tagged.memory l.memory)
      ≡ run_until_of l.steps l.stops l.fn.regs (g.M.Tagged.memory l.fn.memory);
  tag : l.fn.regs.rgsr.tag < 16 → l.regs.rgsr.tag < 16;
  kept : g.M.Tagged.kept l.fn.memory l.memory;
}
