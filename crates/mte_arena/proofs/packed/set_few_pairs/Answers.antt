use Rattle.std.proofs.Common.{◌≡◌, ◌+◌, ◌*◌, ◌/◌, ◌%◌, ◌<◌, length, ap, ◌∙◌, sym, arith}
use Rattle.mte_arena.specs.Blocks.{tags_of_bytes}
use Rattle.mte_arena.specs.Frames.{with_run}
use Rattle.mte_arena.proofs.Runs.{run_none, run_of_byte, run_of_two_bytes}
use Rattle.mte_arena.proofs.Tags.{length-tags-of-bytes}
use Rattle.mte_arena.proofs.packed.set_few_pairs.Goals as goal

pub returns-then-count-eq2-clause-tags : goal.returns-then-count-eq2-clause-tags
returns-then-count-eq2-clause-tags c =
    let bs = c.args.packed.now in let k = c.args.from in let n = c.args.count in let t = c.args.tag in
    let inside = c.requires.run.within in let fits : k + 1 < length bs = omega (arith, c.if-count-eq2.true) in
    let low : (t * 17) % 16 ≡ t = omega (arith, c.requires.run.small) in let high : t * 17 / 16 % 16 ≡ t = omega (arith, c.requires.run.small) in let all : 4 ≡ n * 2 = omega (arith, c.if-count-eq2.true) in
    run_of_two_bytes bs k (t * 17) t fits low high ∙ ap (λ m. with_run (tags_of_bytes bs) (k * 2) m t) all

pub returns-else-count-eq2-clause-tags : goal.returns-else-count-eq2-clause-tags
returns-else-count-eq2-clause-tags c =
    let bs = c.args.packed.now in let k = c.args.from in let n = c.args.count in let t = c.args.tag in
    let inside = c.requires.run.within in let all : 2 ≡ n * 2 = omega (arith, c.requires.few, c.if-count-eq0.false, c.if-count-eq2.false) in let fits : k < length bs = omega (arith, all) in
    let low : (t * 17) % 16 ≡ t = omega (arith, c.requires.run.small) in let high : t * 17 / 16 % 16 ≡ t = omega (arith, c.requires.run.small) in
    run_of_byte bs k (t * 17) t fits low high ∙ ap (λ m. with_run (tags_of_bytes bs) (k * 2) m t) all

pub returns-then-count-eq0-clause-tags : goal.returns-then-count-eq0-clause-tags
returns-then-count-eq0-clause-tags c = sym (run_none (tags_of_bytes c.args.packed.now) (c.args.from * 2) (c.args.count * 2) c.args.tag (omega (arith, c.if-count-eq0.true)) (omega (arith, c.requires.run.within, length-tags-of-bytes c.args.packed.now)))
