use Rattle.std.proofs.Common.{◌≡◌, ◌+◌, ◌-◌, ◌<◌, nat_lt, true, false, sym, ap, ◌∙◌, arith}
use Rattle.std.proofs.lemmas.Bool.{cond-true, cond-false}
use Rattle.std.proofs.lemmas.Bool.Decides.{nat_tests}
use Rattle.std.specs.Int.{to_le_bytes, w64}
use Rattle.mte_tags.specs.Memory.{with_granules}
use Rattle.mte_tags.specs.Accesses.{with_bytes_at}
use Rattle.scudo_heap.specs.Chunks.{granules_of, end_of, block_end, with_chunk_tag, with_end_tag_0, with_header_tag_0, with_header}
use Rattle.scudo_heap.proofs.AroundLemmas.{around, around_before}
use Rattle.scudo_heap.proofs.placing.write_around.Goals as goal
use Rattle.scudo_heap.proofs.placing.write_around.Goals.{then-end-place, else-end-place}

pub returns-then-write_chunk-clause-memory : goal.returns-then-write_chunk-clause-memory
unfolding with_chunk_tag with_end_tag_0 with_header_tag_0 with_header
returns-then-write_chunk-clause-memory g c =
    let m = g.M.Tagged.memory c.args.memory.now in
    let p = c.args.place in
    let n = granules_of p.size in
    let above = c.requires.chunk.place.above in
    let below = c.requires.open.below in
    let within = c.requires.chunk.place.within in
    let count = c.granules-count.ensures in
    let size = c.size_of_class.ensures.size in
    let behind = c.if-end-place.behind in
    let wide : with_granules (with_granules m (p.user - 16) (1 + c.granules-count.result + behind) 0 false) p.user c.granules-count.result c.args.tag true
    ≡ with_granules (with_granules m (p.user - 16) (1 + n + behind) 0 false) p.user n c.args.tag true =
    ap (λ k. with_granules (with_granules m (p.user - 16) (1 + k + behind) 0 false) p.user k c.args.tag true) count in
    let tags : with_granules (with_granules m (p.user - 16) (1 + n + behind) 0 false) p.user n c.args.tag true ≡ with_end_tag_0 (with_header_tag_0 (with_chunk_tag m p c.args.tag) p) p =
    elim c.if-end-place.branch [
      | then-end-place w ↦
          let before = w.if-end-place.true in
          let goes-on : nat_lt (end_of p) (block_end p) ≡ true = let t : end_of p < block_end p = omega arith in grind (arith, nat_tests) in
          let more : 1 + n + behind ≡ n + 2 = omega (arith, w.behind-is) in
          ap (λ k. with_granules (with_granules m (p.user - 16) k 0 false) p.user n c.args.tag true) more
          ∙ around m p.user n c.args.tag (omega arith) c.requires.chunk.place.aligned (omega arith)
          ∙ sym (cond-true _ _ _ goes-on)
      | else-end-place w ↦
          let before = w.if-end-place.false in
          let ends : nat_lt (end_of p) (block_end p) ≡ false = grind (arith, nat_tests) in
          let more : 1 + n + behind ≡ 1 + n = omega (arith, w.behind-is) in
          ap (λ k. with_granules (with_granules m (p.user - 16) k 0 false) p.user n c.args.tag true) more
          ∙ around_before m p.user n c.args.tag (omega arith) c.requires.chunk.place.aligned (omega arith)
          ∙ sym (cond-false _ _ _ ends)
    ] in
    c.if-write_chunk.ensures.memory
    ∙ ap (λ k. with_bytes_at k (p.user - 16) c.to_le_bytes-bytes.result) (wide ∙ tags)
    ∙ ap (λ bs. with_bytes_at (with_end_tag_0 (with_header_tag_0 (with_chunk_tag m p c.args.tag) p) p) (p.user - 16) bs) (c.to_le_bytes-bytes.ensures ∙ ap (to_le_bytes w64) c.pack-word.ensures.word)
