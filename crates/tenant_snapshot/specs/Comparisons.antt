-- What an instruction compares, and where that is entered.
use Rattle.std.specs.Prelude.{ℕ, ◌+◌, ◌-◌, ◌*◌, ◌/◌, ◌%◌, ◌^◌, ◌==◌, ◌&&◌, ◌||◌, Bool, not}
use Rattle.std.specs.Prelude.{Option, Some, None, option_map, List, length, position, slice_set}
use Rattle.std.specs.Prelude.{bit_and, bit_xor, min, slice_index, if◌then◌else◌}
use Rattle.a64_bits.specs.Masks.{bit_mask_of}
use Rattle.a64_bits.specs.Shifts.{shifted_left}
use Rattle.a64_instr.specs.declared.instruction.Instr.{Instr}
use Rattle.a64_instr.specs.declared.instruction.Instr.TheVariants as instr
use Rattle.a64_decode.specs.Decoded.{instr_of_word}
use Rattle.a64_registers.specs.declared.registers.Regs.{Regs}
use Rattle.a64_registers.specs.Conditions.{holds}
use Rattle.a64_registers.specs.Names.{ANDS, EOR, RET}
use Rattle.a64_registers.specs.Operands.{size_of, operand, extend_value}
use Rattle.a64_registers.specs.Registers.{register, register_or_sp}
use Rattle.a64_step.specs.Addressing.{offset_address}
use Rattle.a64_step.specs.Logical.{mask_or_zero, shifted_operand}
use Rattle.tenant_snapshot.specs.Maps.{edge_hash}
use Rattle.tenant_snapshot.specs.declared.comparison.ComparisonEntry.{ComparisonEntry}
use Rattle.tenant_snapshot.specs.declared.comparison.ComparedOperation.{ComparedOperation}
use Rattle.tenant_snapshot.specs.declared.comparison_kinds.TheConstants as kind

-- ---- what is compared (Arm ARM DDI 0487, C6.2)

-- A comparison of two numbers of 32 bits, where sf is 0, or of 64; whoever enters it adds the step
-- and the address.
abbrev pub comparison : ℕ → ℕ → ℕ → ℕ → ComparisonEntry
comparison kind sf left right = record {
  step = 0;
  pc = 0;
  left = left;
  right = right;
  length = 0;
  kind = kind;
  width = size_of sf / 8;
}

-- What ADD, ADDS, SUB and SUBS compare by themselves, or with a CBZ of their result.
abbrev pub sum_kind : ℕ → ℕ → ℕ
sum_kind op s =
    if s == 1 then (if op == 1 then kind.COMPARED_SUBS else kind.COMPARED_ADDS)
    else (if op == 1 then kind.COMPARED_SUB_CBZ else kind.NOT_COMPARED)

-- What AND, ORR, EOR and ANDS compare so.
abbrev pub logic_kind : ℕ → ℕ
logic_kind opc =
    if opc == ANDS then kind.COMPARED_ANDS
    else (if opc == EOR then kind.COMPARED_EOR_CBZ else kind.NOT_COMPARED)

-- The operands of an addition or a subtraction. The second one is of rm, or of no register where
-- that is 31.
abbrev pub sum_of : Regs → Instr → Option ComparedOperation
sum_of r (instr.AddSubImm sf op s sh imm12 rn rd) =
    Some (record {
      kind = sum_kind op s;
      sf = sf;
      left = operand sf (register_or_sp r rn);
      right = if sh == 1 then imm12 * 4096 else imm12;
      rm = 31;
      rd = rd;
    })
sum_of r (instr.AddSubShift sf op s shift rm imm6 rn rd) =
    Some (record {
      kind = sum_kind op s;
      sf = sf;
      left = operand sf (register r rn);
      right = shifted_operand sf shift 0 imm6 (register r rm);
      rm = rm;
      rd = rd;
    })
sum_of r (instr.AddSubExt sf op s rm option imm3 rn rd) =
    Some (record {
      kind = sum_kind op s;
      sf = sf;
      left = operand sf (register_or_sp r rn);
      right = operand sf (shifted_left 64 imm3 (extend_value option (register r rm)));
      rm = rm;
      rd = rd;
    })
sum_of r other = None

-- The operands of an operation on bits.
abbrev pub logic_of : Regs → Instr → Option ComparedOperation
logic_of r (instr.LogImm sf opc n immr imms rn rd) =
    Some (record {
      kind = logic_kind opc;
      sf = sf;
      left = operand sf (register r rn);
      right = mask_or_zero (bit_mask_of n imms immr (size_of sf));
      rm = 31;
      rd = rd;
    })
logic_of r (instr.LogShift sf opc shift n rm imm6 rn rd) =
    Some (record {
      kind = logic_kind opc;
      sf = sf;
      left = operand sf (register r rn);
      right = shifted_operand sf shift n imm6 (register r rm);
      rm = rm;
      rd = rd;
    })
logic_of r other = None

abbrev pub or_logic : Regs → Instr → Option ComparedOperation → Option ComparedOperation
or_logic r i None = logic_of r i
or_logic r i (Some o) = Some o

-- The operands of either.
abbrev pub operation_of : Regs → Instr → Option ComparedOperation
operation_of r i = or_logic r i (sum_of r i)

-- What an operation compares by itself: it sets the flags.
abbrev pub by_flags : Option ComparedOperation → Option ComparisonEntry
by_flags None = None
by_flags (Some o) =
    if (o.kind == kind.COMPARED_SUBS) || (o.kind == kind.COMPARED_ADDS)
    || (o.kind == kind.COMPARED_ANDS)
    then Some (comparison o.kind o.sf o.left o.right)
    else None

-- Whether the value of a register is that of a subtraction, or of an exclusive OR, right before,
-- whose second operand is still in its register.
abbrev pub is_result : ComparedOperation → ℕ → ℕ → Bool
is_result o sf rt =
    ((o.kind == kind.COMPARED_SUB_CBZ) || (o.kind == kind.COMPARED_EOR_CBZ)) && (o.sf == sf)
    && (o.rd == rt) && not (o.rm == rt) && not (rt == 31)

-- What CBZ and CBNZ compare: the register with 0, or the operands of what came right before them.
-- The first one is what the result and the second one give.
abbrev pub with_zero : Option ComparedOperation → Regs → ℕ → ℕ → ComparisonEntry
with_zero None r sf rt = comparison kind.COMPARED_CBZ sf (operand sf (register r rt)) 0
with_zero (Some o) r sf rt =
    let value = operand sf (register r rt) in
    if is_result o sf rt
    then comparison o.kind sf
    (if o.kind == kind.COMPARED_SUB_CBZ then (value + o.right) % 2 ^ size_of sf
    else bit_xor value o.right)
    o.right
    else comparison kind.COMPARED_CBZ sf value 0

-- The operation that a word is, if it is one.
abbrev pub operation_before : Regs → Option Instr → Option ComparedOperation
operation_before r None = None
operation_before r (Some i) = operation_of r i

-- The bit that TBZ and TBNZ test.
abbrev pub bit_of : Regs → ℕ → ℕ → ℕ → ComparisonEntry
bit_of r b5 b40 rt = comparison kind.COMPARED_TBZ 1 (register r rt) (2 ^ (32 * b5 + b40))

-- A call of one of some functions, with three arguments.
abbrev pub call_of : List ℕ → Regs → ℕ → Option ComparisonEntry
call_of functions r target =
    option_map
    (λ place. record {
      step = 0;
      pc = 0;
      left = slice_index r.x 0;
      right = slice_index r.x 1;
      length = slice_index r.x 2;
      kind = kind.COMPARED_CALL;
      width = min place (2 ^ 32 - 1);
    })
    (position (λ f. f == target % 2 ^ 56) functions)

-- What an instruction compares, where a word was attempted before it.
abbrev pub comparison_of : List ℕ → ℕ → Regs → ℕ → Instr → Option ComparisonEntry
comparison_of functions before r pc (instr.CondCmp sf op rm cond i rn nzcv) =
    if holds r.flags cond
    then Some (comparison (if op == 1 then kind.COMPARED_CCMP else kind.COMPARED_CCMN) sf
    (operand sf (register r rn)) (if i == 1 then rm else operand sf (register r rm)))
    else None
comparison_of functions before r pc (instr.CmpBranch sf op imm19 rt) =
    Some (with_zero (operation_before r (instr_of_word before)) r sf rt)
comparison_of functions before r pc (instr.TestBranch b5 op b40 imm14 rt) =
    Some (bit_of r b5 b40 rt)
comparison_of functions before r pc (instr.Branch op imm26) =
    call_of functions r (offset_address pc 4 imm26)
comparison_of functions before r pc (instr.BranchReg opc rn) =
    if opc == RET then None else call_of functions r (register r rn)
comparison_of functions before r pc i = by_flags (operation_of r i)

-- ---- where it is entered

-- The place of a comparison: its address has eight, and both operands choose one of them.
abbrev pub place_of : ℕ → ComparisonEntry → ℕ
place_of count c = bit_and (c.pc / 4) (count / 8 - 1) * 8 + edge_hash c.left c.right % 8

-- The entries with one more, which takes the place of another.
abbrev pub with_comparison : List ComparisonEntry → ComparisonEntry → List ComparisonEntry
with_comparison entries c = slice_set entries (place_of (length entries) c) c

-- The entries after an instruction of a word at an address, which is the step of a number, where
-- another word was attempted before it.
abbrev pub entered : List ComparisonEntry → ℕ → ℕ → Option ComparisonEntry → List ComparisonEntry
entered entries step pc None = entries
entered entries step pc (Some c) = with_comparison entries (record c { step = step; pc = pc })

abbrev pub compared_by : List ℕ → ℕ → Regs → ℕ → Option Instr → Option ComparisonEntry
compared_by functions before r pc None = None
compared_by functions before r pc (Some i) = comparison_of functions before r pc i

abbrev pub entries_after :
    List ℕ → ℕ → ℕ → Regs → ℕ → ℕ → List ComparisonEntry → List ComparisonEntry
entries_after functions step before r pc word entries =
    entered entries step pc (compared_by functions before r pc (instr_of_word word))

-- ---- which words are looked at

-- Bits 30 to 24 of the words that are looked at (Arm ARM DDI 0487, C4.1), each as a bit: B and BL;
-- ADDS of registers; ADDS of a number; CBZ, CBNZ, TBZ and TBNZ; CCMN; BR and BLR; ANDS and SUBS of
-- registers; SUBS and ANDS of a number; CCMP.
abbrev pub groups : ℕ
groups =
    15 * 2 ^ 0x14 + 2 ^ 0x2B + 2 ^ 0x31 + 15 * 2 ^ 0x34 + 2 ^ 0x3A + 2 ^ 0x56 + 3 * 2 ^ 0x6A
    + 3 * 2 ^ 0x71 + 2 ^ 0x7A

-- Whether a word is looked at.
abbrev pub may_compare : ℕ → Bool
may_compare word = groups / 2 ^ (word / 2 ^ 24 % 2 ^ 7) % 2 == 1
