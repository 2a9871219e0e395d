use Rattle.std.proofs.Common.{◌≡◌, drop}
use Rattle.mte_elf.specs.Images.{any_share_page}
use Rattle.mte_elf.proofs.planning.shares_page.Given as goal

abbrev pub invariant-loop-i : goal.invariant-loop-i
invariant-loop-i l = any_share_page (drop l.i l.segments) ≡ any_share_page l.segments
