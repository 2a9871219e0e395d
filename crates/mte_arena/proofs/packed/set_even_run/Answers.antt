use Rattle.std.proofs.Common.{◌≡◌, ◌+◌, ◌*◌, ◌/◌, ◌%◌, ap, ◌∙◌, arith}
use Rattle.mte_arena.specs.Blocks.{tags_of_bytes}
use Rattle.mte_arena.specs.Frames.{with_run}
use Rattle.mte_arena.proofs.Runs.{run_on}
use Rattle.mte_arena.proofs.Tags.{length-tags-of-bytes}
use Rattle.mte_arena.proofs.packed.set_even_run.Goals as goal

pub returns-clause-tags : goal.returns-clause-tags
returns-clause-tags c =
    let was = tags_of_bytes c.args.packed.now in let g = c.args.first in let n = c.args.count in let t = c.args.tag in
    let begin : g / 2 * 2 ≡ g = omega (arith, c.requires.even) in let all : n ≡ n / 2 * 2 + n % 2 = omega arith in
    c.set_odd_end.ensures.tags ∙ ap (λ l. with_run l (g + n / 2 * 2) (n % 2) t) c.set_few_pairs.ensures.tags ∙
    ap (λ k. with_run (with_run was k (n / 2 * 2) t) (g + n / 2 * 2) (n % 2) t) begin ∙
    run_on was g (n / 2 * 2) (n % 2) n t all (omega (arith, c.requires.run.within, length-tags-of-bytes c.args.packed.now))
