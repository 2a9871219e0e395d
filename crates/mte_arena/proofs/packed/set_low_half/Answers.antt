use Rattle.std.proofs.Common.{◌≡◌, ◌+◌, ◌*◌, ◌/◌, ◌%◌, ◌<◌, length, get_or, ap, ◌∙◌, refl, arith, slice_set}
use Rattle.mte_arena.specs.Blocks.{tags_of_bytes}
use Rattle.mte_arena.proofs.Tags.{low_set}
use Rattle.mte_arena.proofs.packed.set_low_half.Goals as goal

pub returns-clause-tags : goal.returns-clause-tags
returns-clause-tags c =
    let bs = c.args.packed.now in let k = c.args.at in let t = c.args.tag in
    let fits : k < length bs = omega (arith, c.requires.within) in
    let low : (get_or bs k 0 / 16 * 16 + t) % 16 ≡ t = omega (arith, c.requires.small) in
    let high : (get_or bs k 0 / 16 * 16 + t) / 16 % 16 ≡ get_or bs k 0 / 16 % 16 = omega (arith, c.requires.small) in
    low_set bs k (k * 2) 0 _ refl fits high ∙ ap (slice_set (tags_of_bytes bs) (k * 2)) low
