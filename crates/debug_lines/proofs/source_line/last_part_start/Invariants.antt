use Rattle.std.proofs.Common.{◌≡◌, ◌-◌, take, not}
use Rattle.std.specs.Prelude.{◌==◌}
use Rattle.std.specs.List.{suffix_len}
use Rattle.debug_lines.specs.declared.source_line.TheConstants.{SLASH}
use Rattle.debug_lines.proofs.source_line.last_part_start.Given as goal

abbrev pub invariant-loop-i : goal.invariant-loop-i
invariant-loop-i l = l.start ≡ l.i - suffix_len (λ b. not (b == SLASH)) (take l.i l.path)
