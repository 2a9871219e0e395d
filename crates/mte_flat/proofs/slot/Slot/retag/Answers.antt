use Rattle.std.proofs.Common.{◌∙◌, ◌*◌, sym, ap, refl, arith}
use Rattle.mte_flat.specs.Inner.Slots.{page_of}
use Rattle.mte_tags.specs.Runs.{with_granule_tags}
use Rattle.mte_tags.proofs.PageRuns.{filled, filled_spliced}
use Rattle.mte_tags.proofs.TagRuns.{page_parts}
use Rattle.mte_flat.proofs.slot.Slot.retag.Goals as goal

pub returns-then-zero-clause-holds : goal.returns-then-zero-clause-holds
returns-then-zero-clause-holds c =
    let slot = c.args.self.now in
    let f = c.args.first in
    let n = c.args.count in
    let tags = filled_spliced slot.tags c.fill.new.self f n c.args.tag (omega arith) (c.fill.ensures.after (λ y e. e)) in
    let bytes = filled slot.bytes c.fill-then-zero.new.self (16 * f) (16 * n) 0 (omega arith) (c.fill-then-zero.ensures.after (λ y e. e)) in
    page_parts _ _ _ bytes tags ∙ ap (with_granule_tags (page_of slot) f n c.args.tag) (sym c.if-zero.true)

pub returns-else-zero-clause-holds : goal.returns-else-zero-clause-holds
returns-else-zero-clause-holds c =
    let slot = c.args.self.now in
    let tags = filled_spliced slot.tags c.fill.new.self c.args.first c.args.count c.args.tag (omega arith) (c.fill.ensures.after (λ y e. e)) in
    page_parts _ _ _ refl tags ∙ ap (with_granule_tags (page_of slot) c.args.first c.args.count c.args.tag) (sym c.if-zero.false)
