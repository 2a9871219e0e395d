-- The values of a target's registers, by their numbers in the description that GDB is given.
use Rattle.std.specs.Prelude.{ℕ, ◌+◌, ◌*◌, ◌^◌, ◌==◌, Option, Some, None, slice_get, nat_lt}
use Rattle.std.specs.Prelude.{if◌then◌else◌}
use Rattle.debuggee.specs.Flags.{word_of_flags, word_of_mode}
use Rattle.mte_tags.specs.declared.generator.Rgsr.{Rgsr}
use Rattle.gdb_front.specs.declared.registers.TargetRegisters.{TargetRegisters}

-- RGSR_EL1: TAG in bits 3 to 0, SEED in bits 23 to 8 (Arm ARM DDI 0487, "RGSR_EL1").
abbrev pub word_of_generator : Rgsr → ℕ
word_of_generator g = 2 ^ 8 * g.seed + g.tag

-- The registers after x0 to x30: SP, PC, the flags, the control of tags, the steps, RGSR_EL1.
abbrev pub special_value : TargetRegisters → ℕ → Option ℕ
special_value t n =
    if n == 31 then Some t.regs.now.sp
    else (if n == 32 then Some t.regs.now.pc
    else (if n == 33 then Some (word_of_flags t.regs.now.flags)
    else (if n == 34 then Some (word_of_mode t.mode)
    else (if n == 35 then Some t.step
    else (if n == 36 then Some (word_of_generator t.regs.now.rgsr)
    else None)))))

-- x0 to x30 have the numbers 0 to 30.
abbrev pub value_of : TargetRegisters → ℕ → Option ℕ
value_of t n = if nat_lt n 31 then slice_get t.regs.now.x n else special_value t n
