use Rattle.std.proofs.Common.{◌≡◌, ◌∙◌, ◌-◌, ◌/◌, ap, sym, refl, arith}
use Rattle.std.specs.Int.{from_le_bytes, w64}
use Rattle.a64_bits.specs.Addresses.{plain}
use Rattle.mte_tags.specs.Memory.{page_has, attrs_at, attrs_cases, has_cases, has, page_at}
use Rattle.mte_tags.specs.Accesses.{read_bytes, bytes_at, addresses}
use Rattle.mte_tags.proofs.FoundPages.{page_read, page_tag}
use Rattle.mte_tags.proofs.chunk.read_chunk_in_page.Goals as goal

pub returns-clause-has : goal.returns-clause-has
unfolding page_has attrs_at
returns-clause-has g c =
    ap (λ o. has_cases (attrs_cases o) 3) c.in_ok-place.ensures.page
    ∙ ap (λ a. has a 3) (sym c.attrs.ensures)
    ∙ ap (λ n. has c.attrs.result.0 n) (sym c.bitor.ensures)
    ∙ sym c.contains.ensures
    ∙ c.if-not-contains.false

pub returns-clause-word : goal.returns-clause-word
unfolding read_bytes
returns-clause-word g c =
    let m = g.S.PageStore.memory c.args.store.now in
    let start = c.args.user - 16 in
    let low : start ≡ plain start = omega (arith, c.requires.plain) in
    c.from_le_bytes.ensures
    ∙ ap (from_le_bytes w64) (page_read m _ start 8 8 c.copy_out.new.buffer c.in_ok-place.ensures.page (omega (arith, c.requires.aligned, c.requires.above)) (omega (arith, c.requires.plain)) c.copy_out.auto.buffer refl c.copy_out.ensures.bytes
    ∙ ap (λ a. bytes_at m (addresses a 8)) low)

pub returns-clause-tag : goal.returns-clause-tag
returns-clause-tag g c =
    let m = g.S.PageStore.memory c.args.store.now in
    let same : c.args.user / 4096 ≡ (c.args.user - 16) / 4096 = omega (arith, c.requires.aligned, c.requires.above, c.if-start-eq-GRANULES.false) in
    c.tag_in_page.ensures.tag
    ∙ sym (page_tag m _ c.args.user (ap (page_at m) same ∙ c.in_ok-place.ensures.page))
