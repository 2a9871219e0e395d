use Rattle.std.proofs.Common.{◌≡◌, ◌+◌, ◌*◌, ◌-◌, ◌++◌}
use Rattle.mte_elf.specs.Headers.{headers_from, headers_of}
use Rattle.mte_elf.proofs.headers.program_headers.Given as goal

abbrev pub invariant-loop-i : goal.invariant-loop-i
invariant-loop-i l = l.headers.items ++ headers_from l.file (l.at + 56 * l.i) (l.count - l.i) ≡ headers_of l.file
