-- A chunk that was freed is not freed again.
use Rattle.std.proofs.Common.{◌≡◌, ◌≢◌, ℕ, ◌+◌, ◌-◌, ◌/◌, ◌%◌, ◌^◌, ◌<◌, ◌⊎◌, ◌==◌, ◌&&◌, nat_le, Bool, true, false, cond, Option, Some, None, Err, refl, sym, ap, subst, ◌∙◌, inl, inr, eq-eqb, arith}
use Rattle.std.proofs.lemmas.Bool.{cond-true, cond-false}
use Rattle.std.proofs.lemmas.Bool.Decides.{nat_tests}
use Rattle.std.proofs.lemmas.Nat.{from_le_bytes-to_le_bytes_8}
use Rattle.std.specs.Prelude.{min}
use Rattle.std.specs.Int.{from_le_bytes, to_le_bytes, w64}
use Rattle.a64_bits.specs.Addresses.{plain}
use Rattle.mte_tags.specs.Memory.{Memory, page_has, has_cases}
use Rattle.mte_tags.specs.Accesses.{read_bytes}
use Rattle.mte_tags.specs.RandomTags.{after_draw}
use Rattle.mte_tags.proofs.ByteLaws.{read_bytes-with-bytes-at}
use Rattle.scudo_header.specs.Headers.{packed_header, unpacked_header, header_word}
use Rattle.scudo_header.specs.declared.headers.Header.{Header}
use Rattle.scudo_header.specs.declared.headers.Origin.TheVariants.{Malloc}
use Rattle.scudo_header.specs.declared.headers.State.TheVariants.{Available}
use Rattle.scudo_header.proofs.HeaderLemmas.{checksum_of-small, unpacked-header-packed-header}
use Rattle.scudo_primary.proofs.BlockLemmas.{size-IsSize}
use Rattle.scudo_heap.specs.declared.abort.HeapAbort.{HeapAbort}
use Rattle.scudo_heap.specs.declared.abort.HeapAbort.TheVariants.{InvalidState}
use Rattle.scudo_header.specs.declared.config.TheConstants.{MAX_REQUEST}
use Rattle.scudo_heap.specs.declared.call.HeapCall.{HeapCall}
use Rattle.scudo_heap.specs.declared.call.HeapCall.TheVariants.{Realloc, Free}
use Rattle.scudo_heap.specs.declared.chunk.Chunk.{Chunk}
use Rattle.scudo_heap.specs.declared.chunk.Found.TheVariants.{InBlock}
use Rattle.scudo_heap.specs.Inner.{IsOpen}
use Rattle.scudo_heap.specs.Chunks.{end_of, block_end, with_size, excluded_tags, with_header, with_chunk_tag}
use Rattle.scudo_heap.specs.Placing.{World, after_give_back, after_resize}
use Rattle.scudo_heap.specs.Allocation.{AllocationResult, no_chunk, after_malloc}
use Rattle.scudo_heap.specs.Checks.{size_found, header_at, is_mapped, check_header, check_pointer, usable_size_cases}
use Rattle.scudo_heap.specs.Freeing.{without_chunk as freed_world, free_cases, free_of, usable_size_of}
use Rattle.scudo_heap.specs.Realloc as heap
use Rattle.scudo_heap.specs.Realloc.{user_of_chunk, after_copy, with_copied_bytes, after_move, with_new_size, realloc_cases, checked_realloc_cases, after_realloc}
use Rattle.scudo_heap.specs.Calls.{call_of_free, call_of_reallocation, after_call}
use Rattle.scudo_heap.proofs.OpenLemmas.{open-mapped}
use Rattle.mte_laws.specs.LiveChunks.{BlockChunk, LiveBlocks, IsPlace, chunk_at}
use Rattle.mte_laws.specs.CarefulRuns.{State, found_at, with_made_chunk, state_after_call, IsLiveBlock}
use Rattle.mte_laws.specs.SoundHeaps.{Sound}
use Rattle.mte_laws.specs.Discipline.{Deallocation, KeepsFree}
use Rattle.mte_laws.proofs.SoundAllocations.{IsSoundIn, branch}
use Rattle.mte_laws.proofs.BlockCalls.{room, block-open, with-chunk-tag-call}
use Rattle.mte_laws.proofs.SoundFrees.{AreSmall, origin_small, small}
use Rattle.mte_laws.proofs.Serving.{blocks-of}
use Rattle.mte_laws.proofs.MadeStates.{IsMade}
use Rattle.mte_laws.proofs.MadeCalls.{malloc-state-after-allocation}
use Rattle.mte_laws.proofs.FreeStates.{with-bytes-at-kept}
use Rattle.mte_laws.proofs.ReallocStates.{still-block}
use Rattle.mte_laws.proofs.Freeings.{IsFreeIn, named, not-free, not-null, free-world, realloc-world}
use Rattle.mte_laws.proofs.Freed.{IsStale}
use Rattle.mte_laws.proofs.Runs.{call-kept, run-sound, run-stale}
use Rattle.mte_laws.proofs.Disciplines.{not-zero, block-careful, stale-by}
use Rattle.mte_laws.specs.Frees.{freed_header, HasFreedHeader, AbortsBy, IsAborted}

-- ---- a call that frees a chunk gives its block back in a sound state

pub record IsGivenBack (x : BlockChunk) (w : World) : Type 0 where
  pub before : State
  pub sound : Sound before
  pub live : chunk_at before.live.blocks x.place.user ≡ Some x
  pub is : after_give_back before.world x.place x.header ≡ w

abbrev IsGivenIf : BlockChunk → World → Type 0
IsGivenIf x w = IsFreeIn w x → IsGivenBack x w

given-here : (s : State) (x : BlockChunk) → Sound s → chunk_at s.live.blocks x.place.user ≡ Some x → IsGivenBack x (freed_world s.world (InBlock x.place x.header))
unfolding freed_world
given-here s x k e = record { before = s; sound = k; live = e; is = refl }

move-to-given : (s : State) (x : BlockChunk) (size : ℕ) (r : AllocationResult) (c : Option Chunk) → Sound s → chunk_at s.live.blocks x.place.user ≡ Some x → IsMade Malloc s r → r.chunk ≡ c
    → IsGivenIf x (heap.move_to_cases s.world (InBlock x.place x.header) size r.world c).world
unfolding after_copy
move-to-given s x size r None k e m f = λ on. absurd (not-free s x k e on)
move-to-given s x size r (Some c) k e m f = λ on.
    let t : State = record { world = r.world; live = with_made_chunk Malloc s.live (Some c) } in
    let sound : Sound t = subst (λ o. Sound (record { world = r.world; live = with_made_chunk Malloc s.live o })) f m.sound in
    let bytes = read_bytes t.world.memory x.place.user (min (size_found (InBlock x.place x.header)) size) in
    let h = with-bytes-at-kept t (user_of_chunk c) bytes sound in
    let u : State = record t { world = with_copied_bytes r.world (InBlock x.place x.header) c size } in
    given-here u x h.sound (still-block s r c x m f e)

move-given : (s : State) (x : BlockChunk) (size : ℕ) → Sound s → chunk_at s.live.blocks x.place.user ≡ Some x → IsGivenIf x (after_move s.world (InBlock x.place x.header) size).world
unfolding after_move
move-given s x size k e = move-to-given s x size (after_malloc s.world size) (after_malloc s.world size).chunk k e (malloc-state-after-allocation s size k) refl

resized-given : (s : State) (x : BlockChunk) (size : ℕ) → Sound s → chunk_at s.live.blocks x.place.user ≡ Some x → IsGivenIf x (after_resize s.world x.place x.header size)
unfolding after_resize
resized-given s x size k e = λ on. absurd (not-free s x k e on)

refit-given : (s : State) (x : BlockChunk) (size : ℕ) → Sound s → chunk_at s.live.blocks x.place.user ≡ Some x → IsGivenIf x (with_new_size s.world (InBlock x.place x.header) size).world
unfolding with_new_size
refit-given s x size k e =
    branch (λ (r : AllocationResult). IsGivenIf x r.world) (nat_le (end_of (with_size x.place size)) (block_end x.place)) (heap.after_resize_in_block s.world x.place x.header size) (after_move s.world (InBlock x.place x.header) size)
    (λ t. resized-given s x size k e)
    (λ t. move-given s x size k e)

realloc-given : (s : State) (x : BlockChunk) (size : ℕ) → Sound s → chunk_at s.live.blocks x.place.user ≡ Some x → IsGivenIf x (realloc_cases s.world (InBlock x.place x.header) size).world
unfolding realloc_cases
realloc-given s x size k e =
    branch (λ (r : AllocationResult). IsGivenIf x r.world) (size == 0) (record { world = freed_world s.world (InBlock x.place x.header); chunk = None })
    (cond (nat_le size MAX_REQUEST) (with_new_size s.world (InBlock x.place x.header) size) (no_chunk s.world))
    (λ t. λ on. given-here s x k e)
    (λ t. branch (λ (r : AllocationResult). IsGivenIf x r.world) (nat_le size MAX_REQUEST) (with_new_size s.world (InBlock x.place x.header) size) (no_chunk s.world)
    (λ v. refit-given s x size k e) (λ v. λ on. absurd (not-free s x k e on)))

given-by : (s : State) (pointer : ℕ) (c : HeapCall) (x : BlockChunk) → Sound s → IsLiveBlock s (plain pointer) x → (c ≡ Free pointer) ⊎ ((size : ℕ) × (c ≡ Realloc pointer size)) → IsFreeIn (state_after_call c s).world x → IsGivenBack x (state_after_call c s).world
unfolding after_call state_after_call
given-by s pointer c x k l (inl q) on =
    let n = not-zero s pointer x k l in
    let h = named s pointer x k l in
    subst (λ (d : HeapCall). IsGivenBack x (state_after_call d s).world) (sym q) (subst (IsGivenBack x) (free-world s pointer (InBlock x.place x.header) n h.1) (given-here s x k h.0))
given-by s pointer c x k l (inr q) on =
    let n = not-zero s pointer x k l in
    let h = named s pointer x k l in
    let w = realloc-world s pointer q.0 (InBlock x.place x.header) n h.1 in
    let on' = subst (λ (d : HeapCall). IsFreeIn (state_after_call d s).world x) q.1 on in
    subst (λ (d : HeapCall). IsGivenBack x (state_after_call d s).world) (sym q.1) (subst (IsGivenIf x) w (realloc-given s x q.0 k h.0) on')

pub given-back : (a : State) (d : Deallocation a) → Sound a → IsGivenBack d.chunk (state_after_call d.call a).world
given-back a d k = given-by a d.pointer d.call d.chunk k d.live d.may d.free

-- ---- the header that it leaves

header-given : (w : World) (l : LiveBlocks) (x : BlockChunk) → IsSoundIn w l → IsPlace w.heap.stacks x.place → HasFreedHeader (after_give_back w x.place x.header) x
unfolding after_give_back with_header
header-given w l x s i =
    let p = x.place in
    let t = (after_draw w.rgsr (excluded_tags w.memory p)).tag in
    let c = with-chunk-tag-call w.memory w.heap.stacks p t s.stacked s.served i in
    let around = block-open w.memory w.heap.stacks p s.stacked s.served i in
    let above = i.above in
    let within = i.within in
    let below = around.below in
    let m1 = with_chunk_tag w.memory p t in
    let bytes = to_le_bytes w64 (packed_header w.heap.cookie p.user (freed_header x)) in
    let opened : IsOpen m1 (p.user - 16) (p.user - 16 + 8) = record { pages = λ a y v. c.attrs (a / 4096) ∙ around.at a (omega arith) (omega arith); below = omega arith } in
    read_bytes-with-bytes-at m1 (p.user - 16) bytes (omega arith) (open-mapped m1 (p.user - 16) 8 8 refl opened) c.whole

pub freed-header : (x : BlockChunk) (w : World) → IsGivenBack x w → HasFreedHeader w x
freed-header x w g =
    subst (λ v. HasFreedHeader v x) g.is (header-given g.before.world g.before.live.blocks x (blocks-of g.before g.sound) (g.sound.placed.place x.place.user x g.live))

-- ---- the checks fail at it

available-small : (cookie user : ℕ) (header : Header) → AreSmall header → packed_header cookie user (record header { state = Available }) < 2 ^ 64
unfolding packed_header
available-small cookie user header s =
    let a = s.class in
    let c = s.size in
    let d = s.offset in
    let o = origin_small header.origin in
    let k = checksum_of-small cookie user (header_word (record header { state = Available })) in
    omega arith

available-back : (m : Memory) (cookie user : ℕ) (header : Header) → AreSmall header → read_bytes m (user - 16) 8 ≡ to_le_bytes w64 (packed_header cookie user (record header { state = Available })) → header_at m cookie user ≡ Some (record header { state = Available })
unfolding header_at
available-back m cookie user header s e =
    let h : Header = record header { state = Available } in
    ap (λ bs. unpacked_header cookie user (from_le_bytes w64 bs)) e
    ∙ ap (unpacked_header cookie user) (from_le_bytes-to_le_bytes_8 (packed_header cookie user h) (available-small cookie user header s))
    ∙ unpacked-header-packed-header cookie user h s.class s.size s.offset

and : (a b : Bool) → a ≡ true → b ≡ true → (a && b) ≡ true
and true b e f = f
and false b e f = cc

pub header-small : (s : State) (u : ℕ) (x : BlockChunk) → Sound s → chunk_at s.live.blocks u ≡ Some x → AreSmall x.header
header-small s u x k e =
    let b = blocks-of s k in
    let i = k.placed.place u x e in
    let z = size-IsSize x.place.class i.carved.class in
    let most = z.most in
    small s.world.heap.stacks x.place x.header (room s.world.heap.stacks x.place b.stacked i) (k.placed.header u x e) (omega arith)

pub check-freed : (w : World) (l : LiveBlocks) (x : BlockChunk) → IsSoundIn w l → IsPlace w.heap.stacks x.place → AreSmall x.header → HasFreedHeader w x → check_pointer w.memory w.heap x.place.user ≡ Err InvalidState
unfolding check_pointer page_has
check-freed w l x s i sm header =
    let p = x.place in
    let above = i.above in
    let within = i.within in
    let around = block-open w.memory w.heap.stacks p s.stacked s.served i in
    let n : nat_le 16 p.user ≡ true = grind (arith, nat_tests) in
    let mapped : is_mapped w.memory p.user ≡ true = and _ _ n (ap (λ t. has_cases t 3) (around.at (p.user - 16) (omega arith) (omega arith))) in
    let aligned : (p.user % 16 == 0) ≡ true = eq-eqb _ _ i.aligned in
    cond-true _ _ _ aligned ∙ cond-true _ _ _ mapped ∙ ap (check_header w.heap p.user) (available-back w.memory w.heap.cookie p.user x.header sm header)

pub aborted-by : (a : HeapAbort) (w : World) (pointer : ℕ) → pointer ≢ 0 → found_at w pointer ≡ Err a → AbortsBy a w pointer
unfolding after_call free_of after_realloc usable_size_of
aborted-by a w pointer n e =
    let some = not-null pointer n in
    record {
      free = ap call_of_free (cond-false _ _ _ some ∙ ap (free_cases w) e);
      realloc = λ size. ap call_of_reallocation (cond-false _ _ _ some ∙ ap (checked_realloc_cases w size) e);
      usable_size = ap (λ r. record { world = w; answer = r }) (cond-false _ _ _ some ∙ ap usable_size_cases e);
    }

-- ---- a run

-- the freed chunk's place, as long as its block is free
pub freed-aborts : (a : State) (d : Deallocation a) (b : State) (pointer : ℕ) → Sound a → Sound b → IsPlace b.world.heap.stacks d.chunk.place → HasFreedHeader b.world d.chunk → plain pointer ≡ plain d.pointer → IsAborted b.world pointer
freed-aborts a d b pointer k sound place header same =
    let x = d.chunk in
    let here : x.place.user ≡ plain d.pointer = k.placed.user (plain d.pointer) x d.live.live in
    let above = (k.placed.place (plain d.pointer) x d.live.live).above in
    let n : pointer ≢ 0 = λ z. omega arith in
    let c = check-freed b.world b.live.blocks x (blocks-of b sound) place (header-small a (plain d.pointer) x k d.live.live) header in
    aborted-by InvalidState b.world pointer n (ap (check_pointer b.world.memory b.world.heap) (same ∙ sym here) ∙ c)

abbrev pub IsStaleChunk : {a : State} → Deallocation a → State → Type 0
IsStaleChunk {a} d b = IsStale b.world.memory b.world.heap.stacks (record { place = d.chunk.place; tag = d.chunk.tag; given = (state_after_call d.call a).world.rgsr.tag })

pub freed-sound : (a : State) (d : Deallocation a) → Sound a → Sound (state_after_call d.call a)
freed-sound a d k = (call-kept a d.call k (block-careful a d.pointer d.call d.chunk d.live d.may)).sound

pub freed-stale-chunk : (a : State) (d : Deallocation a) → Sound a → IsStaleChunk d (state_after_call d.call a)
freed-stale-chunk a d k = stale-by a d.pointer d.call d.chunk k (not-zero a d.pointer d.chunk k d.live) d.live d.may d.free

-- what a run keeps of a freed chunk while its block is free
pub record IsFreedIn (a : State) (d : Deallocation a) (b : State) : Type 0 where
  pub sound : Sound b
  pub stale : IsStaleChunk d b

pub freed-in : (a : State) (d : Deallocation a) (b : State) → Sound a → KeepsFree d b → IsFreedIn a d b
freed-in a d b k run =
    let first = freed-sound a d k in
    record {
      sound = run-sound run first;
      stale = run-stale (record { place = d.chunk.place; tag = d.chunk.tag; given = (state_after_call d.call a).world.rgsr.tag }) run first (freed-stale-chunk a d k);
    }

pub header-after : (a : State) (d : Deallocation a) → Sound a → HasFreedHeader (state_after_call d.call a).world d.chunk
header-after a d k = freed-header d.chunk (state_after_call d.call a).world (given-back a d k)
