use Rattle.std.proofs.Common.{◌≡◌, ◌+◌, ◌*◌, ◌/◌, ◌%◌, ◌<◌, ap, ◌∙◌, sym, length, arith, slice_set}
use Rattle.mte_arena.specs.Blocks.{tags_of_bytes}
use Rattle.mte_arena.specs.Frames.{with_run}
use Rattle.mte_arena.proofs.Runs.{run_none, run_one}
use Rattle.mte_arena.proofs.Tags.{length-tags-of-bytes}
use Rattle.mte_arena.proofs.packed.set_odd_end.Goals as goal

pub returns-then-count-eq1-clause-tags : goal.returns-then-count-eq1-clause-tags
returns-then-count-eq1-clause-tags c =
    let was = tags_of_bytes c.args.packed.now in let g = c.args.first in let n = c.args.count in let t = c.args.tag in
    let last : (g / 2 + n / 2) * 2 ≡ g + n / 2 * 2 = omega (arith, c.requires.even) in let one : 1 ≡ n % 2 = sym c.if-count-eq1.true in
    let fits : g + n / 2 * 2 < length was = omega (arith, c.requires.run.within, c.if-count-eq1.true, length-tags-of-bytes c.args.packed.now) in
    c.set_low_half.ensures.tags ∙ ap (λ k. slice_set was k t) last ∙ run_one was (g + n / 2 * 2) t fits ∙ ap (λ m. with_run was (g + n / 2 * 2) m t) one

pub returns-else-count-eq1-clause-tags : goal.returns-else-count-eq1-clause-tags
returns-else-count-eq1-clause-tags c =
    let was = tags_of_bytes c.args.packed.now in let g = c.args.first in let n = c.args.count in let t = c.args.tag in
    sym (run_none was (g + n / 2 * 2) (n % 2) t (omega (arith, c.if-count-eq1.false)) (omega (arith, c.requires.run.within, length-tags-of-bytes c.args.packed.now)))
