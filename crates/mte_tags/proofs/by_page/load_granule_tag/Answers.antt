use Rattle.std.proofs.Common.{◌∙◌, ◌*◌, ◌/◌, ap, false}
use Rattle.a64_bits.specs.Addresses.{plain}
use Rattle.mte_tags.specs.Memory.{tag_at}
use Rattle.mte_tags.specs.Accesses.{tag_load_fault, tag_result, byte_fault, read_access}
use Rattle.mte_tags.proofs.GranuleLists.{tag_at_granule}
use Rattle.mte_tags.proofs.by_page.load_granule_tag.Goals as goal

pub returns-clause-answer : goal.returns-clause-answer
unfolding tag_load_fault
returns-clause-answer g c =
    let m = g.S.PageStore.memory c.args.store.now in
    c.granule_tag_at.ensures.answer
    ∙ ap (λ x. tag_result (byte_fault m x (c.plain.result / 16 * 16)) (tag_at m (c.plain.result / 16 * 16))) c.reading-access.ensures
    ∙ ap (λ a. tag_result (byte_fault m (read_access c.args.addr false) (a / 16 * 16)) (tag_at m (a / 16 * 16))) c.plain.ensures
    ∙ ap (λ t. tag_result (byte_fault m (read_access c.args.addr false) (plain c.args.addr / 16 * 16)) t) (tag_at_granule m (plain c.args.addr))
