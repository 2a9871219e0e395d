use Rattle.std.proofs.Common.{◌≡◌, drop}
use Rattle.debug_lines.proofs.NumberLemmas.{bits_below}
use Rattle.debug_lines.proofs.leb128.joined.Given as goal

abbrev pub invariant-loop-i : goal.invariant-loop-i
invariant-loop-i l = l.value ≡ bits_below (drop l.i l.number) l.above
