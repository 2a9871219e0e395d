-- The registers that lent ones say, whatever they hold.
use Rattle.std.specs.Prelude.{ℕ, ◌+◌, ◌/◌, ◌%◌, ◌^◌, ◌==◌, if◌then◌else◌}
use Rattle.a64_bits.specs.declared.arithmetic.Flags.{Flags}
use Rattle.a64_registers.specs.declared.registers.Regs.{Regs}
use Rattle.tombolopan_c.specs.declared.lent_regs.LentRegs.{LentRegs}

-- the flags of the bits 31 to 28
abbrev pub flags_of : ℕ → Flags
flags_of nzcv =
    record {
      n = nzcv / 2 ^ 31 % 2 == 1;
      z = nzcv / 2 ^ 30 % 2 == 1;
      c = nzcv / 2 ^ 29 % 2 == 1;
      v = nzcv / 2 ^ 28 % 2 == 1;
    }

-- The flags in bits 31 to 28 (NZCV).
abbrev pub nzcv_of : Flags → ℕ
nzcv_of f =
    (if f.n then 2 ^ 31 else 0) + (if f.z then 2 ^ 30 else 0)
    + (if f.c then 2 ^ 29 else 0) + (if f.v then 2 ^ 28 else 0)

-- The registers that C lends.
abbrev pub regs_of : LentRegs → Regs
regs_of r =
    record {
      x = r.x;
      sp = r.sp;
      pc = r.pc;
      flags = flags_of r.nzcv;
      rgsr = record { tag = r.rgsr_tag % 16; seed = r.rgsr_seed };
    }
