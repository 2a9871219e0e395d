use Rattle.std.proofs.Common.{sym, ◌∙◌, arith, length, ◌≤◌, ◌-◌, ◌+◌, drop, length-drop}
use Rattle.mte_elf.proofs.ImageLemmas.{any_share_page-next}
use Rattle.mte_elf.proofs.planning.shares_page.Goals as goal

pub loop-i-preserved : goal.loop-i-preserved
loop-i-preserved c =
    let long : length (drop (c.loop-i.i + 1) c.args.segments.now) ≤ length c.args.segments.now - (c.loop-i.i + 1) = simp length-drop (omega arith) in
    sym (any_share_page-next c.args.segments.now c.loop-i.i _ _ (omega arith) long (sym c.touches_any.ensures ∙ c.if-touches_any.false)) ∙ c.loop-i.invariant
