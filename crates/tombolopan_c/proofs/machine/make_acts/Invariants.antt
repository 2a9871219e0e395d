use Rattle.std.proofs.Common.{◌≡◌, ℕ, ◌<◌, ◌≤◌, length, get_or}
use Rattle.mte_tenant.specs.Machines.{machine_of}
use Rattle.tombolopan_c.specs.Machines.{act_done, machine_before}
use Rattle.tombolopan_c.specs.declared.act.MachineAct.{MachineAct}
use Rattle.tombolopan_c.proofs.machine.make_acts.Given as goal

-- the machine is what the acts so far leave, and these have their answers
abbrev pub invariant-loop-act : goal.invariant-loop-act
invariant-loop-act l =
    ((d : MachineAct) → machine_of l.lone.parts l.lone.memory ≡ machine_before (machine_of l.fn.lone.parts l.fn.lone.memory) l.fn.acts l.act-index d)
    × (((k : ℕ) (d : MachineAct) → k < l.act-index → get_or l.acts k d ≡ act_done (machine_of l.fn.lone.parts l.fn.lone.memory) l.fn.acts k d)
    × ((k : ℕ) (d : MachineAct) → l.act-index ≤ k → get_or l.acts k d ≡ get_or l.fn.acts k d))
