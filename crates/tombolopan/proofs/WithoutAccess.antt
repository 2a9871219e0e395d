-- An instruction that makes no access leaves the memory as it is.
use Rattle.std.proofs.Common.{◌≡◌, ℕ, Option, Some, None, Ok, Err, Result, refl}
use Rattle.std.specs.Prelude.{option_and_then}
use Rattle.std.specs.Result.{result_ok}
use Rattle.a64_instr.specs.declared.instruction.Instr.{Instr}
use Rattle.a64_decode.specs.Decoded.{instr_of_word}
use Rattle.mte_tags.specs.Memory.{Memory}
use Rattle.mte_tags.specs.Accesses.{fetch_result}
use Rattle.mte_tags.specs.declared.fault.MemFault.{MemFault}
use Rattle.a64_registers.specs.declared.registers.Regs.{Regs}
use Rattle.a64_step.specs.Steps.{step_cases, executed_word, step_of}
use Rattle.tombolopan.specs.InstructionAccesses.{accessed, next_access}
use Rattle.tombolopan.proofs.KeptMemory.{memory_kept}

by_instr : (w : ℕ) (o : Option Instr) (r : Regs) (m : Memory) → option_and_then (λ i. accessed i r) o ≡ None → (step_cases w o r m).memory ≡ m
by_instr w None r m e = refl
by_instr w (Some i) r m e = memory_kept i r m e

by_word : (f : Result ℕ MemFault) (r : Regs) (m : Memory) → option_and_then (λ i. accessed i r) (option_and_then instr_of_word (result_ok f)) ≡ None → (executed_word f r m).memory ≡ m
by_word (Err f) r m e = refl
by_word (Ok w) r m e = by_instr w (instr_of_word w) r m e

pub step_without_access : (r : Regs) (m : Memory) → next_access r m ≡ None → (step_of r m).memory ≡ m
unfolding step_of
step_without_access r m e = by_word (fetch_result m r.pc) r m e
