use Rattle.std.proofs.Common.{◌≡◌, ◌+◌, ◌-◌, sym, ap, ◌∙◌, suc, arith}
use Rattle.mte_arena.specs.Blocks.{tags_of_bytes}
use Rattle.mte_arena.specs.Frames.{with_run}
use Rattle.mte_arena.proofs.Runs.{run_none, run_before}
use Rattle.mte_arena.proofs.Tags.{length-tags-of-bytes}
use Rattle.mte_arena.proofs.packed.set_run.Goals as goal

pub returns-else-first-eq0-clause-tags : goal.returns-else-first-eq0-clause-tags
returns-else-first-eq0-clause-tags c =
    let was = tags_of_bytes c.args.packed.now in let g = c.args.first in let n = c.args.count in let t = c.args.tag in let some : suc (n - 1) ≡ n = omega (arith, c.if-count-eq0.false) in
    c.set_even_run-else-first-eq0.ensures.tags ∙ ap (λ l. with_run l (g + 1) (n - 1) t) c.set_half.ensures.tags ∙
    run_before was g (n - 1) t (omega (arith, c.requires.within, c.if-count-eq0.false, length-tags-of-bytes c.args.packed.now)) ∙ ap (λ m. with_run was g m t) some

pub returns-then-count-eq0-clause-tags : goal.returns-then-count-eq0-clause-tags
returns-then-count-eq0-clause-tags c = sym (run_none (tags_of_bytes c.args.packed.now) c.args.first c.args.count c.args.tag (omega (arith, c.if-count-eq0.true)) (omega (arith, c.requires.within, length-tags-of-bytes c.args.packed.now)))
