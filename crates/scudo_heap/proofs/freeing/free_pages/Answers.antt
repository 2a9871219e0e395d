use Rattle.std.proofs.Common.{◌≡◌, ◌+◌, ◌*◌, ◌/◌, ap, ◌∙◌, arith}
use Rattle.common.specs.declared.limits.TheConstants.{PAGE_SIZE}
use Rattle.mte_tags.specs.Memory.{attrs_at}
use Rattle.mte_tags.proofs.PageLaws.{ArePages-attrs}
use Rattle.scudo_heap.specs.Heaps.{with_less}
use Rattle.scudo_heap.proofs.MapLemmas.{without}
use Rattle.scudo_heap.proofs.freeing.free_pages.Goals as goal

pub unmap_pages-requires : goal.unmap_pages-requires
unmap_pages-requires g c =
    let m = g.M.Tagged.memory c.args.memory.now in
    let n = c.args.mapping in
    let w = without c.args.maps.now.mappings n c.remove.ensures.mappings c.requires.there in
    let aligned = w.aligned in
    ArePages-attrs m (n.start / PAGE_SIZE) n.pages 11 (λ i l.
    let q : n.start / PAGE_SIZE + i ≡ (n.start + PAGE_SIZE * i) / PAGE_SIZE = omega arith in
    ap (attrs_at m) q ∙ (c.requires.open c.remove.ensures.mappings).pages (n.start + PAGE_SIZE * i) (omega arith) (omega arith))

pub returns-clause-maps : goal.returns-clause-maps
unfolding with_less
returns-clause-maps g c = c.remove.ensures.maps
