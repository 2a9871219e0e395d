-- What a free and a reallocation in place clear.
use Rattle.std.proofs.Common.{◌≡◌, ℕ, ◌-◌, ◌/◌, ◌<◌, ◌≤◌, sym, subst, ◌∙◌, arith, ◌%◌, ◌^◌, ◌==◌, nat_le, nat_lt, true, false, Some, refl, ap}
use Rattle.std.specs.Int.{to_le_bytes, w64}
use Rattle.mte_tags.specs.Memory.{byte_at, tag_at, Memory, with_granules}
use Rattle.mte_tags.specs.RandomTags.{after_draw}
use Rattle.mte_tags.proofs.ByteLaws.{byte_at-written_other}
use Rattle.mte_tags.proofs.TagLaws.{byte_at-with_granules_zero, byte_at-with_granules_kept}
use Rattle.scudo_header.specs.Headers.{packed_header}
use Rattle.scudo_header.specs.declared.headers.State.TheVariants.{Available}
use Rattle.scudo_heap.specs.Chunks.{end_of, granules_of, excluded_tags, with_header, with_chunk_tag, block_end, with_size, after_retag_tail, with_end_tag_0}
use Rattle.scudo_heap.specs.Placing.{World, after_give_back, after_resize}
use Rattle.mte_laws.specs.LiveChunks.{BlockChunk, LiveBlocks, IsPlace, chunk_at}
use Rattle.mte_laws.specs.CarefulRuns.{State, state_after_call}
use Rattle.mte_laws.specs.SoundHeaps.{Sound}
use Rattle.mte_laws.proofs.SoundAllocations.{IsSoundIn, branch}
use Rattle.mte_laws.proofs.BlockCalls.{block-open}
use Rattle.mte_laws.proofs.Serving.{blocks-of}
use Rattle.mte_laws.proofs.Frees.{IsGivenBack, given-back}
use Rattle.mte_laws.specs.Clearing.{FreedChunksAreZero, GrownGranulesAreZero}
use Rattle.std.proofs.lemmas.Bool.{cond-true, cond-false}
use Rattle.std.proofs.lemmas.Bool.Decides.{nat_tests}
use Rattle.mte_tags.specs.Whole.{IsWhole}
use Rattle.scudo_header.specs.declared.config.TheConstants.{MAX_REQUEST}
use Rattle.scudo_heap.specs.declared.chunk.Place.{Place}
use Rattle.scudo_heap.specs.declared.chunk.Found.TheVariants.{InBlock}
use Rattle.scudo_heap.specs.Allocation.{AllocationResult}
use Rattle.scudo_heap.specs.Realloc as heap
use Rattle.scudo_heap.specs.Realloc.{with_new_size, realloc_cases}
use Rattle.scudo_heap.specs.Calls.{after_call}
use Rattle.mte_laws.proofs.Freeings.{named, realloc-world}
use Rattle.mte_laws.proofs.Disciplines.{not-zero}

zero-given : (w : World) (l : LiveBlocks) (x : BlockChunk) → IsSoundIn w l → IsPlace w.heap.stacks x.place → (a : ℕ) → x.place.user ≤ a → a < end_of x.place → byte_at (after_give_back w x.place x.header).memory a ≡ 0
unfolding after_give_back with_header with_chunk_tag
zero-given w l x s i a low high =
    let p = x.place in
    let t = (after_draw w.rgsr (excluded_tags w.memory p)).tag in
    let bytes = to_le_bytes w64 (packed_header w.heap.cookie p.user (record (x.header) { state = Available })) in
    let around = block-open w.memory w.heap.stacks p s.stacked s.served i in
    let above = i.above in
    let within = i.within in
    let below = around.below in
    let al = i.aligned in
    byte_at-written_other (with_chunk_tag w.memory p t) (p.user - 16) bytes a (λ j k q. omega arith)
    ∙ byte_at-with_granules_zero (granules_of p.size) w.memory p.user t a ((a - p.user) / 16) (omega arith) (omega arith) (omega arith) s.served.whole

freed-zero-by : (x : BlockChunk) (w : World) → IsGivenBack x w → (a : ℕ) → x.place.user ≤ a → a < end_of x.place → byte_at w.memory a ≡ 0
freed-zero-by x w g a low high =
    subst (λ (v : World). byte_at v.memory a ≡ 0) g.is (zero-given g.before.world g.before.live.blocks x (blocks-of g.before g.sound) (g.sound.placed.place x.place.user x g.live) a low high)

pub freed-zero : FreedChunksAreZero
freed-zero = λ a d addr k low high. freed-zero-by d.chunk (state_after_call d.call a).world (given-back a d k) addr low high

tail-zero : (m : Memory) (p : Place) (size a : ℕ) → IsWhole m → p.user % 16 ≡ 0 → end_of (with_size p size) ≤ 2 ^ 40 → end_of p ≤ a → a < end_of (with_size p size) → byte_at (after_retag_tail m p size) a ≡ 0
unfolding after_retag_tail with_end_tag_0
tail-zero m p size a whole al small low high =
    let n = granules_of size - granules_of p.size in
    let m1 = with_granules m (end_of p) n (tag_at m p.user) true in
    let q = with_size p size in
    let more : nat_lt (granules_of p.size) (granules_of size) ≡ true = grind (arith, nat_tests) in
    let zero : byte_at m1 a ≡ 0 = byte_at-with_granules_zero n m (end_of p) (tag_at m p.user) a ((a - end_of p) / 16) (omega arith) (omega arith) (omega arith) whole in
    ap (λ k. byte_at k a) (cond-true _ _ _ more)
    ∙ branch (λ k. byte_at k a ≡ byte_at m1 a) (nat_lt (end_of q) (block_end q)) (with_granules m1 (end_of q) 1 0 false) m1 (λ _. byte_at-with_granules_kept 1 m1 (end_of q) 0 a) (λ _. refl)
    ∙ zero

resized-zero : (s : State) (x : BlockChunk) (size a : ℕ) → Sound s → chunk_at s.live.blocks x.place.user ≡ Some x → end_of (with_size x.place size) ≤ block_end x.place → end_of x.place ≤ a → a < end_of (with_size x.place size)
    → byte_at (after_resize s.world x.place x.header size).memory a ≡ 0
unfolding after_resize with_header
resized-zero s x size a k e fits low high =
    let p = x.place in
    let b = blocks-of s k in
    let i = k.placed.place p.user x e in
    let around = block-open s.world.memory s.world.heap.stacks p b.stacked b.served i in
    let below = around.below in
    let bytes = to_le_bytes w64 (packed_header s.world.heap.cookie p.user (record (x.header) { size_or_unused_bytes = size })) in
    byte_at-written_other (after_retag_tail s.world.memory p size) (p.user - 16) bytes a (λ j v q. omega arith)
    ∙ tail-zero s.world.memory p size a k.whole i.aligned (omega arith) low high

pub grown-zero : GrownGranulesAreZero
unfolding after_call state_after_call realloc_cases with_new_size
grown-zero = λ s pointer size a x k l some most fits low high.
    let f = InBlock x.place x.header in
    let h = named s pointer x k l in
    let w = realloc-world s pointer size f (not-zero s pointer x k l) h.1 in
    let z : (size == 0) ≡ false = grind (arith, nat_tests) in
    let b : nat_le size MAX_REQUEST ≡ true = grind (arith, nat_tests) in
    let c : nat_le (end_of (with_size x.place size)) (block_end x.place) ≡ true = grind (arith, nat_tests) in
    let there : realloc_cases s.world f size ≡ heap.after_resize_in_block s.world x.place x.header size = cond-false _ _ _ z ∙ cond-true _ _ _ b ∙ cond-true _ _ _ c in
    subst (λ (v : World). byte_at v.memory a ≡ 0) w (subst (λ (r : AllocationResult). byte_at r.world.memory a ≡ 0) (sym there) (resized-zero s x size a k h.0 fits low high))
