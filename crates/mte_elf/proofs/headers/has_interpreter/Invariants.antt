use Rattle.std.proofs.Common.{◌≡◌, ◌+◌, ◌*◌, ◌-◌}
use Rattle.std.specs.List.{list_any}
use Rattle.mte_elf.specs.Headers.{headers_from, headers_of, is_interpreter}
use Rattle.mte_elf.proofs.headers.has_interpreter.Given as goal

abbrev pub invariant-loop-i : goal.invariant-loop-i
invariant-loop-i l =
    list_any is_interpreter (headers_from l.file (l.at + 56 * l.i) (l.count - l.i))
    ≡ list_any is_interpreter (headers_of l.file)
