-- The access to memory that an instruction makes where it completes (Arm ARM DDI 0487, C6.2), and
-- what it reads or writes.
use Rattle.std.specs.Prelude.{ℕ, ℤ, ◌+◌, ◌-◌, ◌*◌, ◌/◌, ◌%◌, ◌^◌, ◌==◌, ◌&&◌, Bool, not, nat_le, nat_lt}
use Rattle.std.specs.Prelude.{List, [], ◌∷◌, false}
use Rattle.std.specs.Prelude.{Option, Some, None, option_and_then, if◌then◌else◌}
use Rattle.std.specs.Int.RustNames.{bit_and}
use Rattle.std.specs.Result.{result_unwrap_or}
use Rattle.a64_bits.specs.Addresses.{plain, address_tag}
use Rattle.a64_instr.specs.declared.instruction.Instr.{Instr}
use Rattle.a64_instr.specs.declared.instruction.Instr.TheVariants as instr
use Rattle.mte_tags.specs.Memory.{Memory, tag_at}
use Rattle.mte_tags.specs.Accesses.{tag_load_fault, tag_result}
use Rattle.a64_registers.specs.Names.{STORE, BYTE, HALFWORD, WORD, DOUBLEWORD}
use Rattle.a64_registers.specs.Operands.{bytes_of}
use Rattle.a64_registers.specs.Registers.{register, register_or_sp}
use Rattle.a64_registers.specs.declared.registers.Regs.{Regs}
use Rattle.a64_step.specs.declared.addressing.Target.{Target}
use Rattle.a64_step.specs.Addressing.{offset_address, scaled_target, offset_target, post_target}
use Rattle.a64_step.specs.Addressing.{pre_target, register_target}
use Rattle.a64_step.specs.LoadStorePair.{pair_unit}
use Rattle.a64_step.specs.MemoryAccess.{number_read}
use Rattle.a64_step.specs.MemoryTagging.{tag_target, granule_count}
use Rattle.a64_step.specs.declared.outcome.Outcome.{Outcome}
use Rattle.a64_step.specs.Results.{Stepped}
use Rattle.a64_step.specs.Steps.{is_next, next_instr}
use Rattle.tombolopan.specs.declared.kinds.TheConstants.{ACCESS_READ, ACCESS_WRITE}
use Rattle.tombolopan.specs.declared.kinds.TheConstants.{ACCESS_READ_TAG, ACCESS_WRITE_TAG}
use Rattle.tombolopan.specs.declared.instruction_access.InstructionAccess.{InstructionAccess}
use Rattle.tombolopan.specs.declared.trace_arrays.TracedAccess.{TracedAccess}
use Rattle.tombolopan.specs.declared.trace_request.TraceRequest.{TraceRequest}

-- An access that reads or writes bytes: a store writes.
abbrev pub byte_kind : ℕ → ℕ
byte_kind op = if op == STORE then ACCESS_WRITE else ACCESS_READ

-- The number in the low bytes of a register.
abbrev pub low_bytes : ℕ → ℕ → ℕ
low_bytes size v = if nat_lt size 8 then v % 2 ^ (8 * size) else v

-- Two numbers of eight bytes, or of four, as two of eight: the first is at the lower address.
abbrev pub both_of : ℕ → ℕ → ℕ → List ℕ
both_of unit x y =
    if unit == 8 then x ∷ y ∷ []
    else (x % 2 ^ 32 + 2 ^ 32 * (y % 2 ^ 32)) ∷ 0 ∷ []

-- The bytes that a store leaves in memory; of a load nothing is known yet.
abbrev pub known_of : ℕ → List ℕ → List ℕ
known_of op stored = if op == STORE then stored else 0 ∷ 0 ∷ []

-- One register of 2 ^ size bytes.
abbrev pub single_access : Regs → ℕ → ℕ → ℕ → Target → InstructionAccess
single_access r size opc rt t = record {
  kind = byte_kind opc;
  addr = t.address;
  size = bytes_of size;
  value = known_of opc (low_bytes (bytes_of size) (register r rt) ∷ 0 ∷ []);
  first = rt;
  second = None;
}

-- A literal, which is read by its distance.
abbrev pub literal_access : Regs → ℕ → ℤ → ℕ → InstructionAccess
literal_access r opc imm19 rt = record {
  kind = ACCESS_READ;
  addr = offset_address r.pc 4 imm19;
  size = if opc == 1 then 8 else 4;
  value = 0 ∷ 0 ∷ [];
  first = rt;
  second = None;
}

-- Two registers.
abbrev pub pair_access : Regs → ℕ → ℕ → ℕ → ℕ → Target → InstructionAccess
pair_access r opc l rt2 rt t = record {
  kind = byte_kind l;
  addr = t.address;
  size = 2 * pair_unit opc;
  value =
      known_of l
      (both_of (pair_unit opc)
      (low_bytes (pair_unit opc) (register r rt))
      (low_bytes (pair_unit opc) (register r rt2)));
  first = rt;
  second = Some rt2;
}

-- A tag and two registers.
abbrev pub tagged_pair_access : Regs → ℕ → ℕ → Target → InstructionAccess
tagged_pair_access r rt2 rt t = record {
  kind = ACCESS_WRITE + ACCESS_WRITE_TAG;
  addr = t.address;
  size = 16;
  value = register r rt ∷ register r rt2 ∷ [];
  first = rt;
  second = Some rt2;
}

-- The tags of the granules of some bytes, from the granule of an address on; `tag` is what is
-- stored.
abbrev pub tag_access : ℕ → ℕ → ℕ → ℕ → ℕ → InstructionAccess
tag_access kind size a tag rt = record {
  kind = kind;
  addr = a - a % 16;
  size = size;
  value = tag ∷ 0 ∷ [];
  first = rt;
  second = None;
}

-- The access of an instruction, where it makes one.
unfoldable pub accessed : Instr → Regs → Option InstructionAccess
accessed (instr.LdStImm size opc imm12 rn rt) r =
    Some (single_access r size opc rt (scaled_target r size imm12 rn))
accessed (instr.LdStUnscaled size opc imm9 rn rt) r =
    Some (single_access r size opc rt (offset_target r 1 imm9 rn))
accessed (instr.LdStPost size opc imm9 rn rt) r =
    Some (single_access r size opc rt (post_target r 1 imm9 rn))
accessed (instr.LdStPre size opc imm9 rn rt) r =
    Some (single_access r size opc rt (pre_target r 1 imm9 rn))
accessed (instr.LdStReg size opc rm option s rn rt) r =
    Some (single_access r size opc rt (register_target r size rm option s rn))
accessed (instr.LdLit opc imm19 rt) r = Some (literal_access r opc imm19 rt)
accessed (instr.PairPost opc l imm7 rt2 rn rt) r =
    Some (pair_access r opc l rt2 rt (post_target r (pair_unit opc) imm7 rn))
accessed (instr.PairOff opc l imm7 rt2 rn rt) r =
    Some (pair_access r opc l rt2 rt (offset_target r (pair_unit opc) imm7 rn))
accessed (instr.PairPre opc l imm7 rt2 rn rt) r =
    Some (pair_access r opc l rt2 rt (pre_target r (pair_unit opc) imm7 rn))
accessed (instr.Ldg imm9 rn rt) r =
    Some (tag_access ACCESS_READ_TAG 16 (offset_address (register_or_sp r rn) 16 imm9) 0 rt)
accessed (instr.StG opc imm9 mode rn rt) r =
    Some
    (tag_access ACCESS_WRITE_TAG (16 * granule_count opc) (tag_target r imm9 mode rn).address
    (address_tag (register_or_sp r rt)) rt)
accessed (instr.StGP mode imm7 rt2 rn rt) r =
    Some (tagged_pair_access r rt2 rt (tag_target r imm7 mode rn))
accessed other r = None

-- Whether an access is asked for: by its kind, and by a byte of it in the range.
abbrev pub is_wanted : TraceRequest → InstructionAccess → Bool
is_wanted q a =
    (not (bit_and a.kind q.kinds == 0) && nat_le (plain a.addr) q.high)
    && nat_le q.low (plain a.addr + (a.size - 1))

-- The size of a number as instructions have it: it has 2 to this power of bytes.
abbrev pub size_code : ℕ → ℕ
size_code size =
    if size == 1 then BYTE
    else (if size == 2 then HALFWORD
    else (if size == 4 then WORD
    else DOUBLEWORD))

-- The number that a memory has at an address, the lowest byte first, where it can be read.
abbrev pub number_there : Memory → ℕ → ℕ → ℕ
number_there m a size = result_unwrap_or (number_read m a (size_code size) false) 0

-- The tag that a memory has at an address, where it can be loaded.
abbrev pub tag_there : Memory → ℕ → ℕ
tag_there m a = result_unwrap_or (tag_result (tag_load_fault m a) (tag_at m (plain a))) 0

-- The value that a load has put into a register. The zero register keeps nothing: it is what memory
-- has.
abbrev pub loaded_in : Regs → Memory → ℕ → ℕ → ℕ → ℕ
loaded_in r m a size rt =
    if nat_lt rt 31 then low_bytes size (register r rt) else number_there m a size

-- The value that a load of one register or of two has read, by what it left.
abbrev pub loaded_of : Regs → Memory → InstructionAccess → Option ℕ → List ℕ
loaded_of r m a None = loaded_in r m a.addr a.size a.first ∷ 0 ∷ []
loaded_of r m a (Some second) =
    both_of (a.size / 2)
    (loaded_in r m a.addr (a.size / 2) a.first)
    (loaded_in r m ((a.addr + a.size / 2) % 2 ^ 64) (a.size / 2) second)

-- The value that an access has read or written, by what its instruction left.
unfoldable pub value_of : Regs → Memory → InstructionAccess → List ℕ
value_of r m a =
    if a.kind == ACCESS_READ then loaded_of r m a a.second
    else (if a.kind == ACCESS_READ_TAG then tag_there m a.addr ∷ 0 ∷ []
    else a.value)

-- An access of step k at pc as it is entered, where it is asked for, by what the step left.
abbrev pub entered_access :
    TraceRequest → ℕ → ℕ → Regs → Memory → Option InstructionAccess → List TracedAccess
entered_access q k pc r m None = []
entered_access q k pc r m (Some a) =
    if is_wanted q a
    then record {
      step = k;
      pc = pc;
      addr = a.addr;
      value = value_of r m a;
      size = a.size;
      kind = a.kind;
    } ∷ []
    else []

-- The access that the next instruction makes if it completes.
abbrev pub next_access : Regs → Memory → Option InstructionAccess
next_access r m = option_and_then (λ i. accessed i r) (next_instr r m)

-- An access that was completed: one of a step that goes on.
abbrev pub completed : Outcome → Option InstructionAccess → Option InstructionAccess
completed o a = if is_next o then a else None

-- The entry of step k, which leaves s.
abbrev pub accesses_of_step : TraceRequest → ℕ → Regs → Memory → Stepped → List TracedAccess
accesses_of_step q k r m s =
    entered_access q k r.pc s.regs s.memory (completed s.outcome (next_access r m))
