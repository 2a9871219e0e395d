use Rattle.std.proofs.Common.{◌≡◌, ◌∙◌, ◌+◌, ◌-◌, ap, length, arith, false, true}
use Rattle.a64_bits.specs.Addresses.{plain}
use Rattle.mte_tags.specs.Memory.{with_granules}
use Rattle.mte_tags.specs.Accesses.{addresses, with_bytes, with_bytes_at}
use Rattle.mte_tags.proofs.FoundPages.{chunk_written}
use Rattle.mte_tags.proofs.chunk.write_chunk_in_page.Goals as goal

pub returns-clause-memory : goal.returns-clause-memory
unfolding with_bytes_at
returns-clause-memory g c =
    let m = g.S.PageStore.memory c.args.store.now in
    let start = c.args.user - 16 in
    let bs = c.args.bytes.now in
    let next : start + 16 ≡ c.args.user = omega (arith, c.requires.above) in
    let low : start ≡ plain start = omega (arith, c.requires.plain) in
    c.replace_run.ensures.memory
    ∙ chunk_written m _ _ _ _ _ _ _ _ _ start c.args.around c.args.count c.args.tag bs
    (omega (arith, c.requires.aligned)) (omega (arith, c.if-around-first.false)) (omega (arith, c.if-count-eq0.false)) (omega (arith, c.if-count-first.false)) (omega (arith, c.requires.plain, next)) c.told-bytes
    c.in-Some.ensures.memory c.in-Some.ensures.number c.in-Some.ensures.page c.retag.ensures.long
    c.retag.ensures.memory c.retag.ensures.page c.retag.ensures.number
    c.retag-2.ensures.memory c.retag-2.ensures.page c.retag-2.ensures.number
    ∙ ap (λ a. with_bytes (with_granules (with_granules m start c.args.around 0 false) a c.args.count c.args.tag true) (addresses start (length bs)) bs) next
    ∙ ap (λ a. with_bytes (with_granules (with_granules m start c.args.around 0 false) c.args.user c.args.count c.args.tag true) (addresses a (length bs)) bs) low
