-- A live chunk, in a block or with pages of its own, and the addresses that are its own.
use Rattle.std.proofs.Common.{◌≡◌, ◌≢◌, ℕ, ◌+◌, ◌*◌, ◌/◌, ◌<◌, ◌≤◌, ◌⊎◌, true, false, Some, List, ◌∷◌, Ok, sym, ap, ◌∙◌, inl, inr, arith}
use Rattle.std.proofs.lemmas.Bool.{cond-false}
use Rattle.std.specs.Cmp.{nat_cmp_total}
use Rattle.std.specs.FinMap.{get-remove}
use Rattle.std.specs.List.{list_any}
use Rattle.a64_bits.specs.Addresses.{plain}
use Rattle.common.specs.declared.limits.TheConstants.{PAGE_SIZE}
use Rattle.mte_tags.specs.Memory.{attrs_at}
use Rattle.mte_tags.proofs.Pages.{tied_other}
use Rattle.scudo_header.specs.declared.headers.Origin.{Origin}
use Rattle.scudo_primary.proofs.BlockLemmas.{size-IsSize}
use Rattle.scudo_secondary.specs.Mappings.{mapping_of}
use Rattle.scudo_heap.specs.declared.chunk.Place.{Place}
use Rattle.scudo_heap.specs.declared.chunk.Chunk.{Chunk}
use Rattle.scudo_heap.specs.declared.chunk.Chunk.TheVariants.{Small, Large}
use Rattle.scudo_heap.specs.declared.chunk.Found.{Found}
use Rattle.scudo_heap.specs.declared.chunk.Found.TheVariants.{InBlock, InPages}
use Rattle.scudo_heap.specs.Chunks.{block_end}
use Rattle.scudo_heap.specs.Inner.{IsFound}
use Rattle.scudo_heap.specs.Placing.{World}
use Rattle.scudo_heap.specs.Realloc.{user_of}
use Rattle.scudo_heap.specs.Served.{heap_page, is_inside}
use Rattle.scudo_heap.specs.Stacks.{stack_of}
use Rattle.scudo_heap.specs.Allocation.{AllocationResult}
use Rattle.scudo_heap.proofs.BesideLemmas.{start_of, stop_of}
use Rattle.scudo_heap.proofs.MapLemmas.{IsAt, without, inside-in}
use Rattle.mte_laws.specs.LiveChunks.{BlockChunk, LiveBlocks, IsPlace, chunk_at, without_chunk, new_chunk}
use Rattle.mte_laws.specs.LivePages.{PageChunk, LivePages, large_at, without_large, new_large}
use Rattle.mte_laws.specs.CarefulRuns.{State, Live, found_at, with_made_chunk, without_freed_chunk, IsPointerTo}
use Rattle.mte_laws.specs.SoundHeaps.{Sound}
use Rattle.mte_laws.proofs.SoundAllocations.{IsSoundIn}
use Rattle.mte_laws.proofs.Blocks.{apart}
use Rattle.mte_laws.proofs.BlockCalls.{block-open}
use Rattle.mte_laws.proofs.BlockSounds.{not-top}
use Rattle.mte_laws.proofs.Serving.{blocks-of}
use Rattle.mte_laws.proofs.Larges.{check-pointer-of, mappings-apart}
use Rattle.mte_laws.proofs.MadeStates.{IsMade}
use Rattle.mte_laws.proofs.ReallocStates.{chunk-with, large-with}
use Rattle.mte_laws.proofs.FoundStates.{IsListed, block, pages, same_found, large-named}
use Rattle.mte_laws.proofs.Freeings.{named}

-- a chunk in a block, or with pages of its own
abbrev pub AnyChunk : Type 0
AnyChunk = BlockChunk ⊎ PageChunk

abbrev pub IsIn : Live → ℕ → AnyChunk → Type 0
IsIn l u (inl x) = chunk_at l.blocks u ≡ Some x
IsIn l u (inr x) = large_at l.pages u ≡ Some x

-- the checks find it as
abbrev pub found_of : AnyChunk → Found
found_of (inl x) = InBlock x.place x.header
found_of (inr x) = InPages x.mapping x.header

-- its block's addresses, or its pages'
abbrev pub IsOwn : AnyChunk → ℕ → Type 0
IsOwn x a = (start_of (found_of x) ≤ a) × (a < stop_of (found_of x))

-- ---- where it is

pub user-is : (s : State) (u : ℕ) (x : AnyChunk) → Sound s → IsIn s.live u x → user_of (found_of x) ≡ u
user-is s u (inl x) k e = k.placed.user u x e
user-is s u (inr x) k e = (check-pointer-of s.world.heap.maps.mappings u x.mapping k.heap.parts.mappings (k.large.place u x e)).user

pub is-listed : (s : State) (u : ℕ) (x : AnyChunk) → Sound s → IsIn s.live u x → IsListed s (found_of x)
is-listed s u (inl x) k e = block x (ap (chunk_at s.live.blocks) (user-is s u (inl x) k e) ∙ e)
is-listed s u (inr x) k e = pages x (ap (large_at s.live.pages) (user-is s u (inr x) k e) ∙ e)

pub is-found : (s : State) (u : ℕ) (x : AnyChunk) → Sound s → IsIn s.live u x → IsFound s.world.heap (found_of x)
is-found s u (inl x) k e =
    let i = k.placed.place u x e in
    let z = size-IsSize x.place.class i.carved.class in
    let most = z.most in
    let above = i.above in
    let within = i.within in
    record {
      place = record { low = i.carved.class.low; high = i.carved.class.high; carved = i.carved.block; aligned = i.aligned; above = i.above; some = i.some; small = omega arith; within = i.within };
      used = k.placed.unstacked u x e;
      size = (k.placed.header u x e).size;
    }
is-found s u (inr x) k e = sym (k.large.place u x e) ∙ ap (mapping_of s.world.heap.maps.mappings) (sym (user-is s u (inr x) k e))

-- ---- what an allocation takes is none of its addresses

pub record IsTaken (s : State) (a : ℕ) : Type 0 where
  pub mapped : attrs_at s.world.memory (a / 4096) ≡ Some 11
  pub block :
      (v : World) (p : Place) (more : List ℕ) → IsSoundIn v s.live.blocks → IsPlace v.heap.stacks p → stack_of v.heap.stacks p.class ≡ p.block ∷ more
      → p.block ≤ a → a < block_end p → ⊥
  pub pages : (n start : ℕ) → IsAt s.world.heap.maps.mappings n start → start ≤ a → a < start + PAGE_SIZE * n → ⊥

pub is-taken : (s : State) (u a : ℕ) (x : AnyChunk) → Sound s → IsIn s.live u x → IsOwn x a → IsTaken s a
is-taken s u a (inl x) k e own =
    let b = blocks-of s k in
    let i = k.placed.place u x e in
    let around = block-open s.world.memory s.world.heap.stacks x.place b.stacked b.served i in
    let below = around.below in
    let low = own.0 in
    let high = own.1 in
    record {
      mapped = around.at a low high;
      block = λ v p more sound place top from to.
          let j = sound.placed.place u x e in
          let n = not-top v.memory v.heap.stacks s.live.blocks sound p.class p.block more top place.carved u x e in
          elim (apart v.heap.stacks x.place.class p.class x.place.block p.block sound.stacked j.carved place.carved n) [ inl q ↦ omega arith | inr q ↦ omega arith ];
      pages = λ n start at from to. let above = at.above in omega arith;
    }
is-taken s u a (inr x) k e own =
    let ms = s.world.heap.maps.mappings in
    let w = without ms x.mapping k.heap.parts.mappings (is-found s u (inr x) k e) in
    let above = w.above in
    let last = w.last in
    let low = own.0 in
    let high = own.1 in
    let there : list_any (is_inside a) ms ≡ true = w.there a (inside-in a x.mapping low high) in
    record {
      mapped = k.heap.owned.mappings a (omega arith) (omega arith) ∙ ap heap_page there;
      block = λ v p more sound place top from to.
          let around = block-open v.memory v.heap.stacks p sound.stacked sound.served place in
          let below = around.below in
          omega arith;
      pages = λ n start at from to. let z : true ≡ false = sym there ∙ at.out a from to in cc;
    }

-- ---- another chunk has none of them

pub is-apart : (s : State) (u v a : ℕ) (x y : AnyChunk) → Sound s → IsIn s.live u x → IsIn s.live v y → u ≢ v → IsOwn x a → IsOwn y a → ⊥
is-apart s u v a (inl x) (inl y) k e f n p q =
    let b = blocks-of s k in
    let i = k.placed.place u x e in
    let j = k.placed.place v y f in
    let other : x.place.block ≢ y.place.block = λ z. n (k.placed.apart u v x y e f z) in
    let p0 = p.0 in
    let p1 = p.1 in
    let q0 = q.0 in
    let q1 = q.1 in
    elim (apart s.world.heap.stacks x.place.class y.place.class x.place.block y.place.block b.stacked i.carved j.carved other) [ inl z ↦ omega arith | inr z ↦ omega arith ]
is-apart s u v a (inl x) (inr y) k e f n p q =
    let b = blocks-of s k in
    let below = (block-open s.world.memory s.world.heap.stacks x.place b.stacked b.served (k.placed.place u x e)).below in
    let above = (check-pointer-of s.world.heap.maps.mappings v y.mapping k.heap.parts.mappings (k.large.place v y f)).above in
    let p1 = p.1 in
    let q0 = q.0 in
    omega arith
is-apart s u v a (inr x) (inl y) k e f n p q =
    let b = blocks-of s k in
    let below = (block-open s.world.memory s.world.heap.stacks y.place b.stacked b.served (k.placed.place v y f)).below in
    let above = (check-pointer-of s.world.heap.maps.mappings u x.mapping k.heap.parts.mappings (k.large.place u x e)).above in
    let p0 = p.0 in
    let q1 = q.1 in
    omega arith
is-apart s u v a (inr x) (inr y) k e f n p q =
    let p0 = p.0 in
    let p1 = p.1 in
    let q0 = q.0 in
    let q1 = q.1 in
    elim (mappings-apart s.world.heap.maps.mappings u v x.mapping y.mapping k.heap.parts.mappings (k.large.place u x e) (k.large.place v y f) n) [ inl z ↦ omega arith | inr z ↦ omega arith ]

-- ---- it is live after another was made, freed or resized

pub still-made : (s : State) (o : Origin) (r : AllocationResult) (c : Chunk) (u : ℕ) (x : AnyChunk) → IsMade o s r → r.chunk ≡ Some c → IsIn s.live u x → IsIn (with_made_chunk o s.live (Some c)) u x
still-made s o r (Small p t) u (inl x) m f e = chunk-with s.live.blocks (new_chunk o p t) u (m.apart p t f u x e) ∙ e
still-made s o r (Small p t) u (inr x) m f e = e
still-made s o r (Large n z) u (inl x) m f e = e
still-made s o r (Large n z) u (inr x) m f e = large-with s.live.pages (new_large o n z) u (m.apart_large n z f u x e) ∙ e

chunk-without : (l : LiveBlocks) (v u : ℕ) → u ≢ v → chunk_at (without_chunk l v) u ≡ chunk_at l u
unfolding chunk_at without_chunk
chunk-without l v u n = get-remove nat_cmp_total l v u ∙ cond-false _ _ _ (tied_other u v n)

large-without : (g : LivePages) (v u : ℕ) → u ≢ v → large_at (without_large g v) u ≡ large_at g u
unfolding large_at without_large
large-without g v u n = get-remove nat_cmp_total g v u ∙ cond-false _ _ _ (tied_other u v n)

pub still-freed : (l : Live) (f : Found) (u : ℕ) (x : AnyChunk) → u ≢ user_of f → IsIn l u x → IsIn (without_freed_chunk l f) u x
still-freed l (InBlock p header) u (inl x) n e = chunk-without l.blocks p.user u n ∙ e
still-freed l (InBlock p header) u (inr x) n e = e
still-freed l (InPages m header) u (inl x) n e = e
still-freed l (InPages m header) u (inr x) n e = large-without l.pages m.user u n ∙ e

-- ---- what a careful pointer names

pub data IsNamed (s : State) (u : ℕ) (f : Found) : Type 0 where
  is : (x : AnyChunk) → IsIn s.live u x → found_of x ≡ f → IsNamed s u f

pub named-by : (s : State) (pointer : ℕ) (f : Found) → Sound s → IsPointerTo s pointer → pointer ≢ 0 → found_at s.world pointer ≡ Ok f → IsNamed s (plain pointer) f
named-by s pointer f k careful n e = elim (careful n f e) [
  | inl l ↦ is (inl l.0) l.1.live (same_found (found_at s.world pointer) (InBlock l.0.place l.0.header) f (named s pointer l.0 k l.1).1 e)
  | inr l ↦ is (inr l.0) l.1.live (same_found (found_at s.world pointer) (InPages l.0.mapping l.0.header) f (large-named s pointer l.0 k l.1) e)
]
