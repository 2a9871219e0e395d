-- Only the tag of a live chunk opens it.
use Rattle.std.proofs.Common.{◌≡◌, ◌≢◌, ℕ, ◌<◌, ◌≤◌, Some, sym, ap, subst, ◌∙◌, inr, arith}
use Rattle.scudo_secondary.specs.Mappings.{mapping_of}
use Rattle.scudo_heap.specs.Chunks.{end_of}
use Rattle.scudo_heap.specs.Served.{heap_page}
use Rattle.scudo_heap.proofs.MapLemmas.{without, inside-in}
use Rattle.mte_laws.specs.LiveChunks.{BlockChunk, LiveBlocks, IsPlace, chunk_at}
use Rattle.mte_laws.specs.CarefulRuns.{State, state_after_call}
use Rattle.mte_laws.specs.Laws.{IsRefused}
use Rattle.mte_laws.specs.SoundHeaps.{Sound}
use Rattle.mte_laws.proofs.Serving.{blocks-of}
use Rattle.mte_laws.proofs.BlockCalls.{block-open}
use Rattle.mte_laws.proofs.Faults.{refused}
use Rattle.mte_laws.proofs.Larges.{check-pointer-of}
use Rattle.mte_laws.proofs.Disciplines.{chunks-tagged, freed-of, deallocated, stale-tag, stale-refused}
use Rattle.mte_tags.specs.RandomTags.{after_draw}
use Rattle.scudo_heap.specs.Placing.{World, after_give_back}
use Rattle.mte_laws.specs.Discipline.{Deallocation, given_tag}
use Rattle.mte_laws.specs.OtherTags.{OtherTagsAreRefused, FreedTagsDiffer}
use Rattle.mte_laws.proofs.SoundAllocations.{IsSoundIn}
use Rattle.mte_laws.proofs.BlockSounds.{present}
use Rattle.mte_laws.proofs.Draws.{after-draw-fresh}
use Rattle.mte_laws.proofs.Freed.{Freed}
use Rattle.mte_laws.proofs.Frees.{IsGivenBack, given-back, freed-in}

other-tag : (s : State) (u tag a : ℕ) (x : BlockChunk) → Sound s → chunk_at s.live.blocks u ≡ Some x → tag ≢ x.tag → x.place.user ≤ a → a < end_of x.place → IsRefused s.world.memory tag a
other-tag s u tag a x k e n lo hi =
    let b = blocks-of s k in
    let i = k.placed.place u x e in
    let above = i.above in
    let within = i.within in
    let around = block-open s.world.memory s.world.heap.stacks x.place b.stacked b.served i in
    refused s.world.memory tag a k.sync (inr (around.at a (omega arith) (omega arith))) (λ q. n (sym q ∙ chunks-tagged.blocks s u a x k e lo hi))

pub other-tags : OtherTagsAreRefused
other-tags = record {
  blocks = other-tag;
  zero = λ s u a x k e lo hi. other-tag s u 0 a x k e (λ q. (k.tagged.chunks u x e).some (sym q)) lo hi;
  pages = λ s u tag a x k e n lo hi.
      let ms = s.world.heap.maps.mappings in
      let there = k.large.place u x e in
      let f = check-pointer-of ms u x.mapping k.heap.parts.mappings there in
      let w = without ms x.mapping k.heap.parts.mappings (sym there ∙ ap (mapping_of ms) (sym f.user)) in
      let above = w.above in
      let last = w.last in
      refused s.world.memory tag a k.sync
      (inr (k.heap.owned.mappings a (omega arith) (omega arith) ∙ ap heap_page (w.there a (inside-in a x.mapping lo hi))))
      (λ q. n (sym q ∙ chunks-tagged.pages s u a x k e lo hi));
}

-- ---- a freed chunk

-- what a free draws is not 0
given-back-some : (w : World) (l : LiveBlocks) (x : BlockChunk) → IsSoundIn w l → IsPlace w.heap.stacks x.place → (after_give_back w x.place x.header).rgsr.tag ≢ 0
unfolding after_give_back after_draw
given-back-some w l x s i = (after-draw-fresh w.memory x.place w.rgsr (present w.memory w.heap.stacks l s x.place i)).some

given-some : (x : BlockChunk) (w : World) → IsGivenBack x w → w.rgsr.tag ≢ 0
given-some x w g = subst (λ (v : World). v.rgsr.tag ≢ 0) g.is (given-back-some g.before.world g.before.live.blocks x (blocks-of g.before g.sound) (g.sound.placed.place x.place.user x g.live))

given-is : (a : State) (d : Deallocation a) → Sound a → given_tag d ≡ (state_after_call d.call a).world.rgsr.tag
given-is a d k = stale-tag (state_after_call d.call a) (freed-of a d) (deallocated a d k).stale

pub freed-tags : FreedTagsDiffer
freed-tags = record {
  some = λ a d k q. given-some d.chunk (state_after_call d.call a).world (given-back a d k) (sym (given-is a d k) ∙ q);
  other = λ a d k q. (deallocated a d k).stale.other (sym (given-is a d k) ∙ q);
  refused = λ a b d tag addr k run n low high.
      let f = freed-in a d b k run in
      let st = f.stale in
      let other : Freed = record { place = d.chunk.place; tag = tag; given = (state_after_call d.call a).world.rgsr.tag } in
      stale-refused b f.sound other (record { place = st.place; stacked = st.stacked; inside = st.inside; other = λ q. n (sym q ∙ sym (given-is a d k)) }) addr low high;
}
