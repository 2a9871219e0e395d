use Rattle.std.proofs.Common.{◌≡◌, ◌-◌, true, ap, ◌∙◌}
use Rattle.std.specs.Int.{to_le_bytes, w64}
use Rattle.mte_tags.specs.Memory.{with_granules}
use Rattle.mte_tags.specs.Accesses.{with_bytes_at}
use Rattle.scudo_header.specs.Headers.{packed_header}
use Rattle.scudo_heap.specs.Chunks.{granules_of, with_chunk_tag, with_header}
use Rattle.scudo_heap.proofs.freeing.write_freed.Goals as goal

pub returns-then-write_chunk-clause-memory : goal.returns-then-write_chunk-clause-memory
unfolding with_chunk_tag with_header with_granules
returns-then-write_chunk-clause-memory g c =
    let m = g.M.Tagged.memory c.args.memory.now in
    let p = c.args.place in
    let h = c.args.header.now in
    let count : c.granules-count.result ≡ granules_of p.size = c.granules-count.ensures ∙ ap granules_of (c.from.ensures ∙ c.requires.size) in
    let word : c.pack-word.result ≡ packed_header c.args.cookie p.user h = c.pack-word.ensures.word ∙ ap (λ a. packed_header c.args.cookie a h) c.from-2.ensures in
    c.if-write_chunk.ensures.memory
    ∙ ap (λ k. with_bytes_at (with_granules m p.user k c.args.tag true) (p.user - 16) c.to_le_bytes-bytes.result) count
    ∙ ap (λ bs. with_bytes_at (with_chunk_tag m p c.args.tag) (p.user - 16) bs) (c.to_le_bytes-bytes.ensures ∙ ap (to_le_bytes w64) word)
