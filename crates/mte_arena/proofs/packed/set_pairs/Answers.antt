use Rattle.std.proofs.Common.{◌≡◌, ◌+◌, ◌-◌, ◌*◌, ◌/◌, ◌%◌, ◌≤◌, ℕ, List, length, take, drop, replicate, ap, ◌∙◌, arith}
use borrow.Rule.Slice.PartMut.{put_mid}
use Rattle.mte_arena.specs.Blocks.{tags_of_bytes}
use Rattle.mte_arena.proofs.Parts.{length-part}
use Rattle.mte_arena.proofs.Runs.{run_of_pairs}
use Rattle.mte_arena.proofs.packed.set_pairs.Goals as goal

pub returns-clause-tags : goal.returns-clause-tags
returns-clause-tags c =
    let bs = c.args.packed.now in let k = c.args.from in let n = c.args.count in let t = c.args.tag in
    let inside = c.requires.within in let fits : k + n ≤ length bs = omega arith in
    let low : (t * 17) % 16 ≡ t = omega (arith, c.requires.small) in let high : t * 17 / 16 % 16 ≡ t = omega (arith, c.requires.small) in let same : k + n - k ≡ n = omega arith in
    rw same (ap (λ (ws : List ℕ). tags_of_bytes (put_mid k n bs ws)) (c.fill.ensures.after (λ y e. e) ∙ ap (λ m. replicate m (t * 17)) (ap (λ m. length (take m (drop k bs))) same ∙ length-part bs k n fits))) ∙ run_of_pairs bs k n (t * 17) t low high
