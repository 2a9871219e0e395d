-- A tenant's machine after acts, each of which is a slice or is done between slices.
use Rattle.std.specs.Prelude.{ℕ, zero, suc, ◌==◌, List, slice_index_or, if◌then◌else◌}
use Rattle.mte_tags.specs.Memory.{Memory}
use Rattle.mte_tenant.specs.Machines.{Machine, machine_of, with_regs, after_slice}
use Rattle.tombolopan_c.specs.Acts.{with_value, with_bad_argument, register_read, after_set}
use Rattle.tombolopan_c.specs.Acts.{SetRegister, AccessedMemory, after_load, after_store}
use Rattle.tombolopan_c.specs.Acts.{tag_loaded}
use Rattle.tombolopan_c.specs.declared.act.MachineAct.{MachineAct}
use Rattle.tombolopan_c.specs.declared.act_kinds.TheConstants.{ACT_SLICE, ACT_GET, ACT_SET}
use Rattle.tombolopan_c.specs.declared.act_kinds.TheConstants.{ACT_LOAD, ACT_STORE, ACT_LOAD_TAG}

-- The result of an act: the machine, and the act with its answer.
pub record Acted : Type 0 where
  pub machine : Machine
  pub act : MachineAct

-- A machine that an act left as it was.
abbrev pub unchanged : Machine → MachineAct → Acted
unchanged m a = record { machine = m; act = a }

-- A slice, which answers how many steps there were so far.
abbrev pub after_slice_act : Machine → MachineAct → Acted
after_slice_act m a = record {
  machine = after_slice a.number m;
  act = with_value a (after_slice a.number m).parts.history.steps;
}

-- A register was written.
abbrev pub with_set : Machine → SetRegister → Acted
with_set m s = record { machine = machine_of (with_regs m.parts s.regs) m.memory; act = s.act }

-- The memory was accessed.
abbrev pub with_access : Machine → AccessedMemory → Acted
with_access m x = record { machine = machine_of m.parts x.memory; act = x.act }

-- The effect of an act on a machine.
unfoldable pub after_act : Machine → MachineAct → Acted
after_act m a =
    if a.act == ACT_SLICE then after_slice_act m a else (
    if a.act == ACT_GET then unchanged m (register_read m.parts.regs a) else (
    if a.act == ACT_SET then with_set m (after_set m.parts.regs a) else (
    if a.act == ACT_LOAD then with_access m (after_load m.memory a) else (
    if a.act == ACT_STORE then with_access m (after_store m.memory a) else (
    if a.act == ACT_LOAD_TAG then unchanged m (tag_loaded m.memory a) else
    unchanged m (with_bad_argument a))))))

-- ---- acts in order

-- The machine after the first k acts.
unfoldable pub machine_before : Machine → List MachineAct → ℕ → MachineAct → Machine
machine_before m acts zero d = m
machine_before m acts (suc k) d =
    (after_act (machine_before m acts k d) (slice_index_or acts k d)).machine

-- The act k with its answer.
abbrev pub act_done : Machine → List MachineAct → ℕ → MachineAct → MachineAct
act_done m acts k d = (after_act (machine_before m acts k d) (slice_index_or acts k d)).act
