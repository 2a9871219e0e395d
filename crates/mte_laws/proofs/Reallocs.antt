-- A reallocation keeps the bytes that both sizes have, and frees what it moves.
use Rattle.std.proofs.Common.{◌≡◌, ◌≢◌, ℕ, ◌+◌, ◌-◌, ◌*◌, ◌%◌, ◌^◌, ◌<◌, ◌≤◌, ◌==◌, nat_le, nat_lt, length, Bool, true, false, cond, Option, Some, None, Ok, refl, sym, ap, subst, ◌∙◌, inl, inr, arith}
use Rattle.std.proofs.lemmas.Bool.{cond-true, cond-false}
use Rattle.std.proofs.lemmas.Bool.Decides.{nat_tests}
use Rattle.std.proofs.Math.Nat.{min-le_right, le-min}
use Rattle.std.specs.Prelude.{min}
use Rattle.std.specs.Cmp.{nat_cmp_total}
use Rattle.std.specs.FinMap.{get-remove}
use Rattle.std.specs.Int.{to_le_bytes, w64}
use Rattle.a64_bits.specs.Addresses.{plain}
use Rattle.mte_tags.specs.Memory.{Memory, byte_at, tag_at, with_granules}
use Rattle.mte_tags.specs.Whole.{IsWhole}
use Rattle.mte_tags.specs.Accesses.{read_bytes, with_bytes_at}
use Rattle.mte_tags.proofs.Pages.{tied_same}
use Rattle.mte_tags.proofs.ByteLaws.{byte_at-written_same, byte_at-written_other, read_bytes-at, length-read_bytes}
use Rattle.mte_tags.proofs.TagLaws.{byte_at-with_granules_kept, byte_at-with_granules_out}
use Rattle.scudo_header.specs.Headers.{packed_header}
use Rattle.scudo_header.specs.declared.headers.Origin.TheVariants.{Malloc}
use Rattle.scudo_header.specs.declared.config.TheConstants.{MAX_REQUEST}
use Rattle.scudo_heap.specs.declared.call.HeapCall.TheVariants.{Realloc}
use Rattle.scudo_heap.specs.declared.chunk.Place.{Place}
use Rattle.scudo_heap.specs.declared.chunk.Chunk.{Chunk}
use Rattle.scudo_heap.specs.declared.chunk.Chunk.TheVariants.{Small}
use Rattle.scudo_heap.specs.declared.chunk.Found.{Found}
use Rattle.scudo_heap.specs.declared.chunk.Found.TheVariants.{InBlock, InPages}
use Rattle.scudo_heap.specs.Chunks.{end_of, block_end, with_size, granules_of, with_header, with_end_tag_0, after_retag_tail}
use Rattle.scudo_heap.specs.Placing.{World, after_resize}
use Rattle.scudo_heap.specs.Allocation.{AllocationResult, allocation_of, no_chunk, after_malloc}
use Rattle.scudo_heap.specs.Checks.{size_found}
use Rattle.scudo_heap.specs.Freeing.{without_chunk as freed_world}
use Rattle.scudo_heap.specs.Realloc as heap
use Rattle.scudo_heap.specs.Realloc.{ReallocResult, user_of, user_of_chunk, after_copy, with_copied_bytes, after_move, with_new_size, realloc_cases, checked_realloc_cases, after_realloc}
use Rattle.scudo_heap.specs.Calls.{after_call}
use Rattle.scudo_heap.proofs.BesideLemmas.{malloc-beside, found-within, open-in}
use Rattle.scudo_heap.proofs.OpenLemmas.{open-mapped}
use Rattle.mte_laws.specs.LiveChunks.{BlockChunk, chunk_at}
use Rattle.mte_laws.specs.LivePages.{PageChunk, LivePages, large_at, without_large}
use Rattle.mte_laws.specs.CarefulRuns.{State, Live, found_at, with_made_chunk, without_freed_chunk, live_move_cases, live_after_resize, live_after_realloc, live_realloc_cases, live_realloc, state_after_call, IsLiveLarge}
use Rattle.mte_laws.specs.SoundHeaps.{Sound}
use Rattle.mte_laws.proofs.SoundAllocations.{branch}
use Rattle.mte_laws.proofs.Serving.{blocks-of}
use Rattle.mte_laws.proofs.BlockCalls.{block-open}
use Rattle.mte_laws.proofs.MadeStates.{IsMade}
use Rattle.mte_laws.proofs.MadeCalls.{malloc-state-after-allocation}
use Rattle.mte_laws.proofs.FoundStates.{large-named}
use Rattle.mte_laws.proofs.FreeStates.{with-bytes-at-kept}
use Rattle.mte_laws.proofs.ReallocStates.{still-block, still-with-made-chunk}
use Rattle.mte_laws.proofs.Freeings.{IsFreeIn, named, not-null, freed-stale}
use Rattle.mte_laws.proofs.Disciplines.{not-zero, freed-pages}
use Rattle.mte_laws.specs.Reallocs.{ReallocKeepsBytes, ReallocFreesBlocks, ReallocUnmapsPages}
use Rattle.mte_laws.proofs.Chunks.{AnyChunk, IsIn, found_of, user-is, is-listed, is-found, is-taken}
use Rattle.mte_laws.proofs.OtherBytes.{malloc-byte, freed-byte}

-- ---- the bytes of a chunk that moves

module _ (s : State) (u i : ℕ) (x : AnyChunk) (c : Chunk) (k : Sound s) (e : IsIn s.live u x) (has : i < size_found (found_of x)) where
  -- byte i of the chunk that the call leaves is that of the chunk before
  abbrev Keeps : AllocationResult → Type 0
  Keeps r = r.chunk ≡ Some c → byte_at r.world.memory (user_of_chunk c + i) ≡ byte_at s.world.memory (user_of (found_of x) + i)

  move-to-keeps : (size : ℕ) (r : AllocationResult) (o : Option Chunk) → 0 < size → size ≤ MAX_REQUEST → i < size → IsMade Malloc s r → r ≡ after_malloc s.world size → r.chunk ≡ o → Keeps (heap.move_to_cases s.world (found_of x) size r.world o)
  unfolding after_copy
  move-to-keeps size r None pos most low m is_malloc g = λ h. cc
  move-to-keeps size r (Some d) pos most low m is_malloc g = λ h.
      let f = found_of x in
      let t : State = record { world = r.world; live = with_made_chunk Malloc s.live (Some d) } in
      let sound : Sound t = subst (λ o. Sound (record { world = r.world; live = with_made_chunk Malloc s.live o })) g m.sound in
      let n = min (size_found f) size in
      let bs = read_bytes r.world.memory (user_of f) n in
      let copied = with-bytes-at-kept t (user_of_chunk d) bs sound in
      let v : State = record t { world = with_copied_bytes r.world f d size } in
      let listed = still-with-made-chunk s r d (with_copied_bytes r.world f d size) m g (is-listed s u x k e) in
      let found = is-found s u x k e in
      let made : allocation_of r.world (Some d) ≡ after_malloc s.world size = ap (allocation_of r.world) (sym g) ∙ is_malloc in
      let beside = malloc-beside s.world r.world size f d k.heap.parts.stacks k.heap.parts.mappings sound.heap.owned pos most found made in
      let within = found-within s.world.memory s.world.heap f (size_found f) k.heap.owned k.heap.parts.mappings found (omega arith) in
      let first = within.first in
      let last = within.last in
      let top = within.bytes.below in
      let bytes = beside.bytes in
      let below = bytes.below in
      let fewer : n ≤ size = min-le_right (size_found f) size in
      let less : i + 1 ≤ n = le-min (omega arith) (omega arith) in
      let len : length bs ≡ n = length-read_bytes r.world.memory (user_of f) n in
      let there = open-mapped r.world.memory (user_of_chunk d) (length bs) n len (open-in r.world.memory (user_of_chunk d) (user_of_chunk d + size) (user_of_chunk d) (user_of_chunk d + n) bytes (omega arith) (omega arith)) in
      let to : user_of_chunk d + i ≡ (plain (user_of_chunk d) + i) % 2 ^ 56 = omega arith in
      let from : (plain (user_of f) + i) % 2 ^ 56 ≡ user_of f + i = omega arith in
      let same : c ≡ d = (let z : Some d ≡ Some c = h in cc) in
      ap (λ y. byte_at (heap.move_to_cases s.world f size r.world (Some d)).world.memory (user_of_chunk y + i)) same
      ∙ freed-byte v (user_of_chunk d + i) copied.sound listed (λ a b. elim beside.apart [ inl q ↦ omega arith | inr q ↦ omega arith ])
      ∙ ap (byte_at (with_bytes_at r.world.memory (user_of_chunk d) bs)) to
      ∙ byte_at-written_same r.world.memory (user_of_chunk d) bs i (omega arith) (omega arith) there sound.whole
      ∙ read_bytes-at r.world.memory (user_of f) n i (omega arith)
      ∙ ap (byte_at r.world.memory) from
      ∙ ap (λ (w : AllocationResult). byte_at w.world.memory (user_of f + i)) is_malloc
      ∙ malloc-byte s size (user_of f + i) k (is-taken s u (user_of f + i) x k e ((omega arith), (omega arith)))

  move-keeps : (size : ℕ) → 0 < size → size ≤ MAX_REQUEST → i < size → Keeps (after_move s.world (found_of x) size)
  unfolding after_move
  move-keeps size pos most low = move-to-keeps size (after_malloc s.world size) (after_malloc s.world size).chunk pos most low (malloc-state-after-allocation s size k) refl refl

-- ---- in its block

grown-byte : (m : Memory) (p : Place) (size i : ℕ) → IsWhole m → p.user % 16 ≡ 0 → p.user + 16 * granules_of p.size ≤ 2 ^ 40 → size ≤ 2 ^ 20 → i < p.size
    → byte_at (with_granules m (end_of p) (granules_of size - granules_of p.size) (tag_at m p.user) true) (p.user + i) ≡ byte_at m (p.user + i)
grown-byte m p size i whole al low small has = byte_at-with_granules_out (granules_of size - granules_of p.size) m (end_of p) (tag_at m p.user) (p.user + i) true (omega arith) (λ j v q. omega arith) whole

tail-keeps : (m : Memory) (p : Place) (size i : ℕ) → IsWhole m → p.user % 16 ≡ 0 → p.user + 16 * granules_of p.size ≤ 2 ^ 40 → size ≤ 2 ^ 20 → i < p.size → byte_at (after_retag_tail m p size) (p.user + i) ≡ byte_at m (p.user + i)
unfolding after_retag_tail with_end_tag_0
tail-keeps m p size i whole al low small has =
    let m1 = with_granules m (end_of p) (granules_of size - granules_of p.size) (tag_at m p.user) true in
    let q = with_size p size in
    branch (λ n. byte_at n (p.user + i) ≡ byte_at m (p.user + i)) (nat_lt (granules_of p.size) (granules_of size)) _ _
    (λ t. branch (λ n. byte_at n (p.user + i) ≡ byte_at m (p.user + i)) (nat_lt (end_of q) (block_end q)) (with_granules m1 (end_of q) 1 0 false) m1
    (λ v. byte_at-with_granules_kept 1 m1 (end_of q) 0 (p.user + i) ∙ grown-byte m p size i whole al low small has)
    (λ v. grown-byte m p size i whole al low small has))
    (λ t. byte_at-with_granules_kept (granules_of p.size - granules_of size) m (end_of q) 0 (p.user + i))

resize-keeps : (s : State) (u i size : ℕ) (x : BlockChunk) (c : Chunk) (k : Sound s) (e : chunk_at s.live.blocks u ≡ Some x) (has : i < x.place.size) → size ≤ MAX_REQUEST → Keeps s u i (inl x) c k e has (heap.after_resize_in_block s.world x.place x.header size)
unfolding after_resize with_header
resize-keeps s u i size x c k e has most = λ h.
    let p = x.place in
    let b = blocks-of s k in
    let j = k.placed.place u x e in
    let around = block-open s.world.memory s.world.heap.stacks p b.stacked b.served j in
    let below = around.below in
    let within = j.within in
    let above = j.above in
    let d : Chunk = Small (with_size p size) (tag_at s.world.memory p.user) in
    let same : c ≡ d = (let z : Some d ≡ Some c = h in cc) in
    let bytes = to_le_bytes w64 (packed_header s.world.heap.cookie p.user (record (x.header) { size_or_unused_bytes = size })) in
    let m1 = after_retag_tail s.world.memory p size in
    ap (λ y. byte_at (with_bytes_at m1 (p.user - 16) bytes) (user_of_chunk y + i)) same
    ∙ byte_at-written_other m1 (p.user - 16) bytes (p.user + i) (λ a v q. omega arith)
    ∙ tail-keeps s.world.memory p size i k.whole j.aligned (omega arith) (omega arith) has

-- ---- a reallocation

refit-keeps : (s : State) (u i size : ℕ) (x : AnyChunk) (c : Chunk) (k : Sound s) (e : IsIn s.live u x) (has : i < size_found (found_of x)) → 0 < size → size ≤ MAX_REQUEST → i < size → Keeps s u i x c k e has (with_new_size s.world (found_of x) size)
unfolding with_new_size
refit-keeps s u i size (inl x) c k e has pos most low =
    branch (Keeps s u i (inl x) c k e has) (nat_le (end_of (with_size x.place size)) (block_end x.place)) (heap.after_resize_in_block s.world x.place x.header size) (after_move s.world (InBlock x.place x.header) size)
    (λ t. resize-keeps s u i size x c k e has most)
    (λ t. move-keeps s u i (inl x) c k e has size pos most low)
refit-keeps s u i size (inr x) c k e has pos most low = move-keeps s u i (inr x) c k e has size pos most low

realloc-keeps : (s : State) (u i size : ℕ) (x : AnyChunk) (c : Chunk) (k : Sound s) (e : IsIn s.live u x) (has : i < size_found (found_of x)) → i < size → Keeps s u i x c k e has (realloc_cases s.world (found_of x) size)
unfolding realloc_cases
realloc-keeps s u i size x c k e has low =
    branch (Keeps s u i x c k e has) (size == 0) (record { world = freed_world s.world (found_of x); chunk = None }) (cond (nat_le size MAX_REQUEST) (with_new_size s.world (found_of x) size) (no_chunk s.world))
    (λ t. λ h. cc)
    (λ t. branch (Keeps s u i x c k e has) (nat_le size MAX_REQUEST) (with_new_size s.world (found_of x) size) (no_chunk s.world)
    (λ v. refit-keeps s u i size x c k e has (omega arith) (grind (arith, nat_tests)) low)
    (λ v. λ h. cc))

-- what the call leaves is what its case leaves
realloc-is : (w : World) (pointer size : ℕ) (f : Found) → pointer ≢ 0 → found_at w pointer ≡ Ok f → heap.reallocation_of (realloc_cases w f size) ≡ after_realloc w pointer size
unfolding after_realloc
realloc-is w pointer size f n e =
    ap (checked_realloc_cases w size) (sym e)
    ∙ sym (cond-false (pointer == 0) (heap.reallocation_of (after_malloc w size)) (checked_realloc_cases w size (found_at w pointer)) (not-null pointer n))

chunk-is : (r : AllocationResult) (o : ReallocResult) (c : Chunk) → heap.reallocation_of r ≡ o → o.result ≡ Ok (Some c) → r.chunk ≡ Some c
chunk-is r o c is e = let z : Ok r.chunk ≡ Ok (Some c) = ap (λ (v : ReallocResult). v.result) is ∙ e in cc

call-keeps : (s : State) (pointer i size : ℕ) (x : AnyChunk) (c : Chunk) (k : Sound s) (e : IsIn s.live (plain pointer) x) (has : i < size_found (found_of x)) → pointer ≢ 0 → found_at s.world pointer ≡ Ok (found_of x) → i < size
    → (after_realloc s.world pointer size).result ≡ Ok (Some c)
    → byte_at (state_after_call (Realloc pointer size) s).world.memory (user_of_chunk c + i) ≡ byte_at s.world.memory (user_of (found_of x) + i)
unfolding after_call state_after_call
call-keeps s pointer i size x c k e has n f low h =
    let is = realloc-is s.world pointer size (found_of x) n f in
    subst (λ (w : World). byte_at w.memory (user_of_chunk c + i) ≡ byte_at s.world.memory (user_of (found_of x) + i)) (ap (λ (o : ReallocResult). o.world) is)
    (realloc-keeps s (plain pointer) i size x c k e has low (chunk-is (realloc_cases s.world (found_of x) size) (after_realloc s.world pointer size) c is h))

page-not-zero : (s : State) (pointer : ℕ) (x : PageChunk) → Sound s → IsLiveLarge s (plain pointer) x → pointer ≢ 0
page-not-zero s pointer x k l = λ z. let start = k.large.above (plain pointer) x l.live in omega arith

pub realloc-keeps-bytes : ReallocKeepsBytes
realloc-keeps-bytes = record {
  blocks = λ s pointer size i x c k l h has low. call-keeps s pointer i size (inl x) c k l.live has (not-zero s pointer x k l) (named s pointer x k l).1 low h;
  pages = λ s pointer size i x c k l h has low.
      let u = plain pointer in
      let within = k.large.within u x l.live in
      let unused = (k.large.header u x l.live).unused in
      let start = k.large.above u x l.live in
      let user : x.mapping.user ≡ u = user-is s u (inr x) k l.live in
      call-keeps s pointer i size (inr x) c k l.live (omega arith) (page-not-zero s pointer x k l) (large-named s pointer x k l) low h;
}

-- ---- what moves is freed

IsFreeFor : BlockChunk → Chunk → AllocationResult → Type 0
IsFreeFor x c r = r.chunk ≡ Some c → user_of_chunk c ≢ x.place.user → IsFreeIn r.world x

moved-free : (s : State) (x : BlockChunk) (size : ℕ) (c : Chunk) (r : AllocationResult) (o : Option Chunk) → Sound s → chunk_at s.live.blocks x.place.user ≡ Some x → IsMade Malloc s r → r.chunk ≡ o
    → IsFreeFor x c (heap.move_to_cases s.world (InBlock x.place x.header) size r.world o)
unfolding after_copy IsFreeFor
moved-free s x size c r None k e m f = λ a n. cc
moved-free s x size c r (Some d) k e m f = λ a n.
    let t : State = record { world = r.world; live = with_made_chunk Malloc s.live (Some d) } in
    let sound : Sound t = subst (λ o. Sound (record { world = r.world; live = with_made_chunk Malloc s.live o })) f m.sound in
    let bytes = read_bytes t.world.memory x.place.user (min (size_found (InBlock x.place x.header)) size) in
    let h = with-bytes-at-kept t (user_of_chunk d) bytes sound in
    let u : State = record t { world = with_copied_bytes r.world (InBlock x.place x.header) d size } in
    (freed-stale u x h.sound (still-block s r d x m f e)).stacked

move-free : (s : State) (x : BlockChunk) (size : ℕ) (c : Chunk) → Sound s → chunk_at s.live.blocks x.place.user ≡ Some x → IsFreeFor x c (after_move s.world (InBlock x.place x.header) size)
unfolding after_move
move-free s x size c k e = moved-free s x size c (after_malloc s.world size) (after_malloc s.world size).chunk k e (malloc-state-after-allocation s size k) refl

user_chunk : Option Chunk → ℕ
user_chunk None = 0
user_chunk (Some c) = user_of_chunk c

in-place-user : (s : State) (x : BlockChunk) (size : ℕ) (c : Chunk) → (heap.after_resize_in_block s.world x.place x.header size).chunk ≡ Some c → x.place.user ≡ user_of_chunk c
unfolding user_chunk
in-place-user s x size c a = let z : user_chunk (Some (Small (with_size x.place size) (tag_at s.world.memory x.place.user))) ≡ user_chunk (Some c) = ap user_chunk a in z

in-place-free : (s : State) (x : BlockChunk) (size : ℕ) (c : Chunk) → IsFreeFor x c (heap.after_resize_in_block s.world x.place x.header size)
unfolding IsFreeFor
in-place-free s x size c = λ a n. absurd (n (sym (in-place-user s x size c a)))

none-free : (x : BlockChunk) (c : Chunk) (w : World) → IsFreeFor x c (record { world = w; chunk = None })
unfolding IsFreeFor
none-free x c w = λ a n. cc

nothing-free : (s : State) (x : BlockChunk) → Sound s → chunk_at s.live.blocks x.place.user ≡ Some x → IsFreeIn (realloc_cases s.world (InBlock x.place x.header) 0).world x
unfolding realloc_cases
nothing-free s x k e = (freed-stale s x k e).stacked

refit-free : (s : State) (x : BlockChunk) (size : ℕ) (c : Chunk) → Sound s → chunk_at s.live.blocks x.place.user ≡ Some x → IsFreeFor x c (with_new_size s.world (InBlock x.place x.header) size)
unfolding with_new_size
refit-free s x size c k e =
    branch (IsFreeFor x c) (nat_le (end_of (with_size x.place size)) (block_end x.place)) (heap.after_resize_in_block s.world x.place x.header size) (after_move s.world (InBlock x.place x.header) size)
    (λ t. in-place-free s x size c)
    (λ t. move-free s x size c k e)

cases-free : (s : State) (x : BlockChunk) (size : ℕ) (c : Chunk) → Sound s → chunk_at s.live.blocks x.place.user ≡ Some x → IsFreeFor x c (realloc_cases s.world (InBlock x.place x.header) size)
unfolding realloc_cases
cases-free s x size c k e =
    branch (IsFreeFor x c) (size == 0) (record { world = freed_world s.world (InBlock x.place x.header); chunk = None })
    (cond (nat_le size MAX_REQUEST) (with_new_size s.world (InBlock x.place x.header) size) (no_chunk s.world))
    (λ t. none-free x c (freed_world s.world (InBlock x.place x.header)))
    (λ t. branch (IsFreeFor x c) (nat_le size MAX_REQUEST) (with_new_size s.world (InBlock x.place x.header) size) (no_chunk s.world) (λ v. refit-free s x size c k e) (λ v. none-free x c s.world))

pub realloc-frees : ReallocFreesBlocks
unfolding after_call state_after_call IsFreeFor
realloc-frees = record {
  nothing = λ s pointer x k l.
      let h = named s pointer x k l in
      subst (λ w. IsFreeIn w x) (ap (λ (o : ReallocResult). o.world) (realloc-is s.world pointer 0 (InBlock x.place x.header) (not-zero s pointer x k l) h.1)) (nothing-free s x k h.0);
  moved = λ s pointer size x c k l e n.
      let h = named s pointer x k l in
      let is = realloc-is s.world pointer size (InBlock x.place x.header) (not-zero s pointer x k l) h.1 in
      let chunk = chunk-is (realloc_cases s.world (InBlock x.place x.header) size) (after_realloc s.world pointer size) c is e in
      subst (λ w. IsFreeIn w x) (ap (λ (o : ReallocResult). o.world) is) (cases-free s x size c k h.0 chunk n);
}

-- ---- pages of a chunk's own

large-gone : (g : LivePages) (v : ℕ) → large_at (without_large g v) v ≡ None
unfolding large_at without_large
large-gone g v = get-remove nat_cmp_total g v v ∙ cond-true _ _ _ (tied_same v)

-- where a chunk is answered, the old one is live no more
IsGoneFor : PageChunk → Chunk → AllocationResult → Live → Type 0
IsGoneFor x c r l = r.chunk ≡ Some c → large_at l.pages x.mapping.user ≡ None

none-gone : (x : PageChunk) (c : Chunk) (w : World) (l : Live) → IsGoneFor x c (record { world = w; chunk = None }) l
unfolding IsGoneFor
none-gone x c w l = λ e. cc

branch-gone : (x : PageChunk) (c : Chunk) (b : Bool) (v w : AllocationResult) (l m : Live) → IsGoneFor x c v l → IsGoneFor x c w m → IsGoneFor x c (cond b v w) (cond b l m)
branch-gone x c true v w l m f g = f
branch-gone x c false v w l m f g = g

moved-gone : (s : State) (x : PageChunk) (size : ℕ) (c : Chunk) (w : World) (o : Option Chunk) → IsGoneFor x c (heap.move_to_cases s.world (InPages x.mapping x.header) size w o) (live_move_cases s.live (InPages x.mapping x.header) o)
unfolding IsGoneFor
moved-gone s x size c w None = λ e. cc
moved-gone s x size c w (Some d) = λ e. large-gone (with_made_chunk Malloc s.live (Some d)).pages x.mapping.user

move-gone : (s : State) (x : PageChunk) (size : ℕ) (c : Chunk) → IsGoneFor x c (after_move s.world (InPages x.mapping x.header) size) (live_move_cases s.live (InPages x.mapping x.header) (after_malloc s.world size).chunk)
unfolding after_move
move-gone s x size c = moved-gone s x size c (after_malloc s.world size).world (after_malloc s.world size).chunk

refit-gone : (s : State) (x : PageChunk) (size : ℕ) (c : Chunk) → IsGoneFor x c (with_new_size s.world (InPages x.mapping x.header) size) (live_after_resize s.world s.live (InPages x.mapping x.header) size)
unfolding with_new_size
refit-gone s x size c = move-gone s x size c

cases-gone : (s : State) (x : PageChunk) (size : ℕ) (c : Chunk) → IsGoneFor x c (realloc_cases s.world (InPages x.mapping x.header) size) (live_after_realloc s.world s.live (InPages x.mapping x.header) size)
unfolding realloc_cases
cases-gone s x size c =
    let f = InPages x.mapping x.header in
    branch-gone x c (size == 0) (record { world = freed_world s.world f; chunk = None }) (cond (nat_le size MAX_REQUEST) (with_new_size s.world f size) (no_chunk s.world))
    (without_freed_chunk s.live f) (cond (nat_le size MAX_REQUEST) (live_after_resize s.world s.live f size) s.live)
    (none-gone x c (freed_world s.world f) (without_freed_chunk s.live f))
    (branch-gone x c (nat_le size MAX_REQUEST) (with_new_size s.world f size) (no_chunk s.world) (live_after_resize s.world s.live f size) s.live (refit-gone s x size c) (none-gone x c s.world s.live))

live-realloc-is : (s : State) (pointer size : ℕ) (f : Found) → pointer ≢ 0 → found_at s.world pointer ≡ Ok f → live_realloc s pointer size ≡ live_after_realloc s.world s.live f size
live-realloc-is s pointer size f n e =
    cond-false (pointer == 0) (with_made_chunk Malloc s.live (after_malloc s.world size).chunk) (live_realloc_cases s.world s.live size (found_at s.world pointer)) (not-null pointer n)
    ∙ ap (live_realloc_cases s.world s.live size) e

realloc-none : (s : State) (pointer size : ℕ) (x : PageChunk) → Sound s → IsLiveLarge s (plain pointer) x → large_at (live_after_realloc s.world s.live (InPages x.mapping x.header) size).pages x.mapping.user ≡ None
    → large_at (state_after_call (Realloc pointer size) s).live.pages (plain pointer) ≡ None
unfolding state_after_call
realloc-none s pointer size x k l e =
    let is = live-realloc-is s pointer size (InPages x.mapping x.header) (page-not-zero s pointer x k l) (large-named s pointer x k l) in
    ap (λ (j : Live). large_at j.pages (plain pointer)) is
    ∙ ap (large_at (live_after_realloc s.world s.live (InPages x.mapping x.header) size).pages) (sym (user-is s (plain pointer) (inr x) k l.live)) ∙ e

pub realloc-unmaps : ReallocUnmapsPages
unfolding IsGoneFor
realloc-unmaps = record {
  nothing = λ s pointer addr x k l low high.
      freed-pages.gone s pointer addr (Realloc pointer 0) x k l (inr (0, refl)) (realloc-none s pointer 0 x k l (large-gone s.live.pages x.mapping.user)) low high;
  moved = λ s pointer size addr x c k l e low high.
      let is = realloc-is s.world pointer size (InPages x.mapping x.header) (page-not-zero s pointer x k l) (large-named s pointer x k l) in
      let chunk = chunk-is (realloc_cases s.world (InPages x.mapping x.header) size) (after_realloc s.world pointer size) c is e in
      freed-pages.gone s pointer addr (Realloc pointer size) x k l (inr (size, refl)) (realloc-none s pointer size x k l (cases-gone s x size c chunk)) low high;
}
