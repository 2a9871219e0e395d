-- Acts on a tenant's machine between its slices, and their answers. An act that faults or
-- is none changes nothing.
use Rattle.std.specs.Prelude.{ℕ, ◌==◌, nat_le, true, false, Option, Some, None, if◌then◌else◌}
use Rattle.std.specs.Int.{w64, from_le_bytes, to_le_bytes}
use Rattle.a64_bits.specs.Addresses.{plain}
use Rattle.mte_tags.specs.Memory.{Memory, tag_at}
use Rattle.mte_tags.specs.Accesses.{read_fault, read_bytes, after_read, write_fault, after_write}
use Rattle.mte_tags.specs.Accesses.{tag_load_fault}
use Rattle.mte_tags.specs.declared.fault.MemFault.{MemFault}
use Rattle.a64_registers.specs.declared.registers.Regs.{Regs}
use Rattle.a64_registers.specs.Registers.{register_or_sp, with_register_or_sp, with_pc}
use Rattle.tombolopan_c.specs.Faults.{no_fault, report_of}
use Rattle.tombolopan_c.specs.declared.codes.TheConstants.{OK, FAULT, BAD_ARGUMENT}
use Rattle.tombolopan_c.specs.declared.act.MachineAct.{MachineAct}
use Rattle.tombolopan_c.specs.declared.act_kinds.TheConstants.{SP, PC}

-- ---- answers

-- An act that was done, with what was read.
abbrev pub with_value : MachineAct → ℕ → MachineAct
with_value a v = record a { code = OK; answer = v; fault = no_fault }

-- An act that faulted.
abbrev pub with_fault : MachineAct → MemFault → MachineAct
with_fault a f = record a { code = FAULT; answer = 0; fault = report_of f }

-- An act that is none.
abbrev pub with_bad_argument : MachineAct → MachineAct
with_bad_argument a = record a { code = BAD_ARGUMENT; answer = 0; fault = no_fault }

-- ---- registers: x0 to x30 by 0 to 30, SP by 31, PC by 32

-- A register is read.
abbrev pub register_read : Regs → MachineAct → MachineAct
register_read r a =
    if a.number == PC
    then with_value a r.pc
    else (if nat_le a.number SP
    then with_value a (register_or_sp r a.number)
    else with_bad_argument a)

-- The registers after a write of one.
pub record SetRegister : Type 0 where
  pub regs : Regs
  pub act : MachineAct

-- A register is written.
abbrev pub after_set : Regs → MachineAct → SetRegister
after_set r a =
    if a.number == PC
    then record { regs = with_pc r a.value; act = with_value a 0 }
    else (if nat_le a.number SP
    then record { regs = with_register_or_sp r a.number a.value; act = with_value a 0 }
    else record { regs = r; act = with_bad_argument a })

-- ---- memory

-- The result of an access.
pub record AccessedMemory : Type 0 where
  pub memory : Memory
  pub act : MachineAct

-- A fault, or else a value and what the access leaves.
abbrev pub unless : Option MemFault → Memory → MachineAct → ℕ → Memory → AccessedMemory
unless (Some f) before a v after = record { memory = before; act = with_fault a f }
unless None before a v after = record { memory = after; act = with_value a v }

-- Eight bytes are read, the lowest first.
unfoldable pub after_load : Memory → MachineAct → AccessedMemory
after_load m a =
    unless (read_fault m a.addr 8 false) m a (from_le_bytes w64 (read_bytes m a.addr 8))
    (after_read m a.addr 8 false)

-- Eight bytes are written, the lowest first.
unfoldable pub after_store : Memory → MachineAct → AccessedMemory
after_store m a =
    unless (write_fault m a.addr 8 false) m a 0
    (after_write m a.addr (to_le_bytes w64 a.value) false)

-- The tag of a granule is read.
unfoldable pub tag_loaded : Memory → MachineAct → MachineAct
tag_loaded m a = (unless (tag_load_fault m a.addr) m a (tag_at m (plain a.addr)) m).act
