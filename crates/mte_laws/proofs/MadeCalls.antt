-- malloc, calloc and memalign keep the live chunks Sound.
use Rattle.std.proofs.Common.{◌≡◌, ℕ, ◌*◌, ◌^◌, ◌<◌, ◌≤◌, nat_le, max, Option, Some, None, List, [], ◌∷◌, refl, sym, ap, subst, ◌∙◌, arith}
use Rattle.std.proofs.lemmas.Bool.Decides.{nat_tests}
use Rattle.mte_tags.specs.Memory.{pages_left}
use Rattle.scudo_header.specs.Classes.{class_for}
use Rattle.scudo_header.specs.declared.headers.Origin.{Origin}
use Rattle.scudo_header.specs.declared.headers.Origin.TheVariants.{Malloc, Memalign}
use Rattle.scudo_secondary.specs.Mappings.{place_of}
use Rattle.scudo_secondary.specs.declared.mappings.Mapping.{Mapping}
use Rattle.common.specs.declared.limits.TheConstants.{PAGE_SIZE}
use Rattle.scudo_header.specs.declared.config.TheConstants.{MAX_REQUEST}
use Rattle.scudo_heap.specs.declared.chunk.Chunk.{Chunk}
use Rattle.scudo_heap.specs.declared.chunk.Chunk.TheVariants.{Small, Large}
use Rattle.scudo_heap.specs.Stacks.{AreSound, stack_of}
use Rattle.scudo_heap.specs.Placing.{World, pages_for, after_place}
use Rattle.scudo_heap.specs.Large.{mapping_for}
use Rattle.scudo_heap.specs.Allocation.{no_chunk, nonzero_size, need_of, is_alignment, place_in, with_free_block, after_take, after_class_allocation, allocate_cases, map_chunk_cases, after_large_allocation, after_allocate, after_malloc, after_calloc, after_memalign}
use Rattle.scudo_heap.proofs.LargeLemmas.{after_map_chunk}
use Rattle.scudo_heap.specs.Inner.{IsAlign}
use Rattle.scudo_heap.proofs.AllocationLemmas.{power-align}
use Rattle.mte_laws.specs.LivePages.{AreLarge}
use Rattle.mte_laws.specs.CarefulRuns.{State, Live, with_made_chunk}
use Rattle.mte_laws.specs.SoundHeaps.{Sound}
use Rattle.mte_laws.proofs.Views.{TaggedBlocks}
use Rattle.mte_laws.proofs.Serving.{blocks-of}
use Rattle.scudo_primary.specs.Blocks.{IsClass}
use Rattle.scudo_heap.specs.declared.chunk.Place.{Place}
use Rattle.scudo_heap.proofs.BesideLemmas.{is-with-free-block}
use Rattle.scudo_heap.proofs.CallSteps.{class-made}
use Rattle.mte_laws.proofs.SoundAllocations.{branch, blocks_listed, IsClassFor, class-for, after-class-allocation-sound, asked_some}
use Rattle.mte_laws.proofs.MadeStates.{state_after_allocation, IsMade, state-sound, no-chunk-state-after-allocation}
use Rattle.mte_laws.proofs.MadeLarges.{large-state}

-- ---- a chunk in a block

after-take-small : (before w : World) (o : Origin) (a size c : ℕ) (xs : List ℕ) (m : Mapping) (n : ℕ) → (after_take before w o a size c xs).chunk ≡ Some (Large m n) → ⊥
after-take-small before w o a size c [] m n e = cc
after-take-small before w o a size c (b ∷ more) m n e = cc

after-class-allocation-small : (w : World) (o : Origin) (a size c : ℕ) (m : Mapping) (n : ℕ) → (after_class_allocation w o a size c).chunk ≡ Some (Large m n) → ⊥
unfolding after_class_allocation
after-class-allocation-small w o a size c m n e = after-take-small w (with_free_block w c) o a size c (stack_of (with_free_block w c).heap.stacks c) m n e

with-made-chunk-blocks : (o : Origin) (l : Live) (x : Option Chunk) → (with_made_chunk o l x).blocks ≡ blocks_listed o l.blocks x
with-made-chunk-blocks o l None = refl
with-made-chunk-blocks o l (Some (Small p tag)) = refl
with-made-chunk-blocks o l (Some (Large m size)) = refl

with-made-chunk-pages : (o : Origin) (l : Live) (x : Option Chunk) → ((m : Mapping) (n : ℕ) → x ≡ Some (Large m n) → ⊥) → l.pages ≡ (with_made_chunk o l x).pages
with-made-chunk-pages o l None h = refl
with-made-chunk-pages o l (Some (Small p tag)) h = refl
with-made-chunk-pages o l (Some (Large m size)) h = absurd (h m size refl)

maps-after-place : (w : World) (o : Origin) (p : Place) → (after_place w o p).heap.maps ≡ w.heap.maps
unfolding after_place
maps-after-place w o p = refl

maps-after-take : (before w : World) (o : Origin) (a size c : ℕ) (xs : List ℕ) → w.heap.maps ≡ before.heap.maps → (after_take before w o a size c xs).world.heap.maps ≡ before.heap.maps
maps-after-take before w o a size c [] e = refl
maps-after-take before w o a size c (b ∷ more) e = maps-after-place w o (place_in c b a size) ∙ e

maps-after-class : (w : World) (o : Origin) (a size c : ℕ) → AreSound w.heap.stacks → IsClass c → (after_class_allocation w o a size c).world.heap.maps ≡ w.heap.maps
unfolding after_class_allocation
maps-after-class w o a size c s k = maps-after-take w (with_free_block w c) o a size c (stack_of (with_free_block w c).heap.stacks c) (is-with-free-block w c s k).maps

after-class-allocation-state-after-allocation : (o : Origin) (s : State) (a size c : ℕ) → Sound s → IsAlign a → 0 < size → IsClassFor (need_of a size) c → IsMade o s (after_class_allocation s.world o a size c)
after-class-allocation-state-after-allocation o s a size c k al some f =
    let v = k.heap in
    let r = after_class_allocation s.world o a size c in
    let q = after-class-allocation-sound s.world s.live.blocks o a size c v (blocks-of s k) al some f in
    let step = (class-made s.world o a size c v.owned v.parts.stacks f.class al f.holds).left in
    let maps = maps-after-class s.world o a size c v.parts.stacks f.class in
    let blocks = subst (λ b. TaggedBlocks r.world.memory r.world.heap.stacks b) (sym (with-made-chunk-blocks o s.live r.chunk)) q.kept.sound in
    let larges = subst (λ ms. AreLarge ms (with_made_chunk o s.live r.chunk).pages) (ap (λ ms. ms.mappings) (sym maps))
    (subst (AreLarge s.world.heap.maps.mappings) (with-made-chunk-pages o s.live r.chunk (after-class-allocation-small s.world o a size c)) k.large) in
    record {
      sound = state-sound s (state_after_allocation o s.live r) k (ap (λ t. t.mode) step.state) (step.sound v) blocks larges;
      stale = q.kept.stale;
      apart = q.apart;
      apart_large = λ m n e. absurd (after-class-allocation-small s.world o a size c m n e);
      fresh = q.fresh;
    }

-- ---- a chunk with pages of its own

map-chunk-cases-state-after-allocation : (o : Origin) (s : State) (a size n : ℕ) (x : Option ℕ) → Sound s → IsAlign a → 0 < size → size ≤ 2 ^ 20 → n ≤ 4096 → need_of a size ≤ PAGE_SIZE * n → place_of s.world.heap.maps.mappings n ≡ x
    → IsMade o s (map_chunk_cases s.world o a size n x)
map-chunk-cases-state-after-allocation o s a size n None k al some small few need e = no-chunk-state-after-allocation o s k
map-chunk-cases-state-after-allocation o s a size n (Some start) k al some small few need e =
    branch (IsMade o s) (nat_le n (pages_left s.world.memory)) (after_map_chunk s.world o size (mapping_for start n a size)) (no_chunk s.world)
    (λ t. large-state o s a size n start k al some small few need e (grind (arith, nat_tests)))
    (λ t. no-chunk-state-after-allocation o s k)

after-large-allocation-made : (o : Origin) (s : State) (a size : ℕ) → Sound s → IsAlign a → 0 < size → size ≤ 2 ^ 20 → IsMade o s (after_large_allocation s.world o a size (pages_for (need_of a size)))
unfolding after_large_allocation
after-large-allocation-made o s a size k al some small =
    let most = al.most in
    map-chunk-cases-state-after-allocation o s a size (pages_for (need_of a size)) (place_of s.world.heap.maps.mappings (pages_for (need_of a size))) k al some small (omega arith) (omega arith) refl

-- ---- the calls

allocate-cases-state-after-allocation : (o : Origin) (s : State) (a size : ℕ) (c : Option ℕ) → Sound s → IsAlign a → 0 < size → size ≤ 2 ^ 20 → ((d : ℕ) → c ≡ Some d → IsClassFor (need_of a size) d) → IsMade o s (allocate_cases s.world o a size c)
allocate-cases-state-after-allocation o s a size None k al some small f = after-large-allocation-made o s a size k al some small
allocate-cases-state-after-allocation o s a size (Some d) k al some small f = after-class-allocation-state-after-allocation o s a size d k al some (f d refl)

asked_small : (size : ℕ) → size ≤ MAX_REQUEST → nonzero_size size ≤ 2 ^ 20
asked_small size l = grind (arith, nat_tests)

pub after-allocate-made : (o : Origin) (s : State) (a size : ℕ) → Sound s → IsAlign a → IsMade o s (after_allocate s.world o a size)
unfolding after_allocate
after-allocate-made o s a size k al =
    branch (IsMade o s) (nat_le size MAX_REQUEST) (allocate_cases s.world o a (nonzero_size size) (class_for (need_of a (nonzero_size size)))) (no_chunk s.world)
    (λ t. allocate-cases-state-after-allocation o s a (nonzero_size size) (class_for (need_of a (nonzero_size size))) k al (asked_some size) (asked_small size (grind (arith, nat_tests))) (λ d e. class-for (need_of a (nonzero_size size)) d e))
    (λ t. no-chunk-state-after-allocation o s k)

least-align : IsAlign 16
least-align = record { least = omega arith; most = omega arith; multiple = refl }

pub malloc-state-after-allocation : (s : State) (size : ℕ) → Sound s → IsMade Malloc s (after_malloc s.world size)
unfolding after_malloc
malloc-state-after-allocation s size k = after-allocate-made Malloc s 16 size k least-align

pub calloc-state-after-allocation : (s : State) (count size : ℕ) → Sound s → IsMade Malloc s (after_calloc s.world count size)
unfolding after_calloc
calloc-state-after-allocation s count size k = after-allocate-made Malloc s 16 (count * size) k least-align

pub memalign-state-after-allocation : (s : State) (align size : ℕ) → Sound s → IsMade Memalign s (after_memalign s.world align size)
unfolding after_memalign
memalign-state-after-allocation s align size k =
    branch (IsMade Memalign s) (is_alignment align) (after_allocate s.world Memalign (max align 16) size) (no_chunk s.world)
    (λ t. after-allocate-made Memalign s (max align 16) size k (power-align align t))
    (λ t. no-chunk-state-after-allocation Memalign s k)
