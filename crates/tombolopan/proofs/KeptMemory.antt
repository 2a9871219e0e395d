-- Written by tools/isa.py from isa/a64.rows. Do not edit.
-- An instruction that makes no access leaves the memory as it is.
use Rattle.std.proofs.Common.{◌≡◌, None, refl}
use Rattle.a64_instr.specs.declared.instruction.Instr.{Instr}
use Rattle.a64_instr.specs.declared.instruction.Instr.TheVariants as instr
use Rattle.mte_tags.specs.Memory.{Memory}
use Rattle.a64_registers.specs.declared.registers.Regs.{Regs}
use Rattle.a64_step.specs.Steps.{step_of_instr}
use Rattle.tombolopan.specs.InstructionAccesses.{accessed}

pub memory_kept : (i : Instr) (r : Regs) (m : Memory) → accessed i r ≡ None
    → (step_of_instr i r m).memory ≡ m
unfolding accessed step_of_instr
memory_kept (instr.AddSubImm sf op s sh imm12 rn rd) r m e = refl
memory_kept (instr.AddSubShift sf op s shift rm imm6 rn rd) r m e = refl
memory_kept (instr.AddSubExt sf op s rm option imm3 rn rd) r m e = refl
memory_kept (instr.LogImm sf opc n immr imms rn rd) r m e = refl
memory_kept (instr.LogShift sf opc shift n rm imm6 rn rd) r m e = refl
memory_kept (instr.MoveWide sf opc hw imm16 rd) r m e = refl
memory_kept (instr.Bitfield sf opc n immr imms rn rd) r m e = refl
memory_kept (instr.Extr sf n rm imms rn rd) r m e = refl
memory_kept (instr.Adr op immlo immhi rd) r m e = refl
memory_kept (instr.Branch op imm26) r m e = refl
memory_kept (instr.BranchCond imm19 cond) r m e = refl
memory_kept (instr.CmpBranch sf op imm19 rt) r m e = refl
memory_kept (instr.TestBranch b5 op b40 imm14 rt) r m e = refl
memory_kept (instr.BranchReg opc rn) r m e = refl
memory_kept (instr.AdcSbc sf op s rm rn rd) r m e = refl
memory_kept (instr.CondCmp sf op rm cond i rn nzcv) r m e = refl
memory_kept (instr.CondSel sf op rm cond o2 rn rd) r m e = refl
memory_kept (instr.TwoSource sf rm opcode rn rd) r m e = refl
memory_kept (instr.OneSource sf opcode rn rd) r m e = refl
memory_kept (instr.MulAdd sf rm o0 ra rn rd) r m e = refl
memory_kept (instr.MulAddLong u rm o0 ra rn rd) r m e = refl
memory_kept (instr.MulHigh u rm rn rd) r m e = refl
memory_kept (instr.LdStImm size opc imm12 rn rt) r m e = cc
memory_kept (instr.LdStUnscaled size opc imm9 rn rt) r m e = cc
memory_kept (instr.LdStPost size opc imm9 rn rt) r m e = cc
memory_kept (instr.LdStPre size opc imm9 rn rt) r m e = cc
memory_kept (instr.LdStReg size opc rm option s rn rt) r m e = cc
memory_kept (instr.LdLit opc imm19 rt) r m e = cc
memory_kept (instr.PairPost opc l imm7 rt2 rn rt) r m e = cc
memory_kept (instr.PairOff opc l imm7 rt2 rn rt) r m e = cc
memory_kept (instr.PairPre opc l imm7 rt2 rn rt) r m e = cc
memory_kept instr.Svc r m e = refl
memory_kept (instr.Brk imm16) r m e = refl
memory_kept (instr.Hint imm7) r m e = refl
memory_kept (instr.AddG op uimm6 uimm4 rn rd) r m e = refl
memory_kept (instr.SubP s rm rn rd) r m e = refl
memory_kept (instr.Irg rm rn rd) r m e = refl
memory_kept (instr.Gmi rm rn rd) r m e = refl
memory_kept (instr.Ldg imm9 rn rt) r m e = cc
memory_kept (instr.StG opc imm9 mode rn rt) r m e = cc
memory_kept (instr.StGP mode imm7 rt2 rn rt) r m e = cc
