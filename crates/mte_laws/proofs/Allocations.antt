-- What holds of each allocation: one that makes nothing, one in a block, one with pages of its own.
use Rattle.std.proofs.Common.{◌≡◌, ℕ, ◌+◌, ◌-◌, ◌*◌, ◌/◌, ◌%◌, ◌^◌, ◌<◌, ◌≤◌, ◌&&◌, nat_le, Option, Some, None, List, [], ◌∷◌, refl, sym, ap, ◌∙◌, arith}
use Rattle.std.proofs.lemmas.Bool.Decides.{nat_tests}
use Rattle.std.proofs.Math.Nat.{mul-mod_left}
use Rattle.mte_tags.specs.Memory.{Memory, byte_at, byte_cases, with_new_pages, attrs_at, attrs_cases, page_at, pages_left, IsFree}
use Rattle.mte_tags.specs.declared.attrs.Attrs.{Attrs}
use Rattle.mte_tags.proofs.PageLaws.{page_at-with_new_pages_out}
use Rattle.common.specs.declared.limits.TheConstants.{PAGE_SIZE}
use Rattle.scudo_header.specs.Classes.{size_of, class_for}
use Rattle.scudo_header.specs.declared.headers.Origin.{Origin}
use Rattle.scudo_primary.specs.Pools.{is_member}
use Rattle.scudo_primary.specs.Blocks.{IsClass}
use Rattle.scudo_primary.proofs.ListLemmas.{member-first}
use Rattle.scudo_secondary.specs.Mappings.{place_of}
use Rattle.scudo_header.specs.declared.config.TheConstants.{MAX_REQUEST}
use Rattle.scudo_heap.specs.declared.chunk.Place.{Place}
use Rattle.scudo_heap.specs.declared.chunk.Chunk.TheVariants.{Small}
use Rattle.scudo_heap.specs.Inner.{IsAlign}
use Rattle.scudo_heap.specs.Sound.{IsSoundWorld}
use Rattle.scudo_heap.specs.Stacks.{stack_of}
use Rattle.scudo_heap.specs.Placing.{World, more_pages, pages_for, after_grow, after_place}
use Rattle.scudo_heap.specs.Large.{mapping_for}
use Rattle.scudo_heap.specs.Allocation.{AllocationResult, allocation_of, no_chunk, place_in, is_empty, with_free_block, after_take, after_class_allocation, map_chunk_cases, after_large_allocation, nonzero_size, need_of, allocate_cases, after_allocate}
use Rattle.scudo_heap.proofs.LargeLemmas.{after_map_chunk}
use Rattle.scudo_heap.proofs.ServedLemmas.{MayGrow, next-free, regions-of}
use Rattle.mte_laws.specs.LiveChunks.{IsCarved, IsPlace}
use Rattle.mte_laws.specs.CarefulRuns.{State}
use Rattle.mte_laws.specs.SoundHeaps.{Sound}
use Rattle.mte_laws.proofs.Serving.{blocks-of}
use Rattle.mte_laws.proofs.SoundAllocations.{IsSoundIn, branch, both_true, ready_sound, place-in, IsClassFor, class-for, asked_some}

-- a world whose class has a free block if it could get one: mapped pages are as they were
pub record IsReadyIn (s : State) (v : World) : Type 0 where
  pub sound : IsSoundIn v s.live.blocks
  pub bytes : (a : ℕ) → attrs_at s.world.memory (a / 4096) ≡ Some 11 → byte_at v.memory a ≡ byte_at s.world.memory a
  pub cookie : v.heap.cookie ≡ s.world.heap.cookie

-- the next chunk's place: in the block on top of its class's stack, at a multiple of its alignment
pub record IsNext (v : World) (align : ℕ) (p : Place) : Type 0 where
  pub place : IsPlace v.heap.stacks p
  pub more : List ℕ
  pub top : stack_of v.heap.stacks p.class ≡ p.block ∷ more
  pub multiple : p.user % align ≡ 0

-- a chunk may be made in n pages of its own from an address on
pub record IsMappable (s : State) (align size n start : ℕ) : Type 0 where
  pub some : 0 < size
  pub small : size ≤ 2 ^ 20
  pub few : n ≤ 4096
  pub need : need_of align size ≤ PAGE_SIZE * n
  pub place : place_of s.world.heap.maps.mappings n ≡ Some start
  pub left : n ≤ pages_left s.world.memory

-- ---- a class gets pages

mapped-not-free : (m : Memory) (q r n k : ℕ) → attrs_at m r ≡ Some k → IsFree m q n → q ≤ r → r < q + n → ⊥
unfolding attrs_at
mapped-not-free m q r n k e f lo hi =
    let same : r ≡ q + (r - q) = omega arith in
    let y : page_at m r ≡ None = ap (page_at m) same ∙ f (r - q) (omega arith) in
    let v : None ≡ Some k = sym (ap attrs_cases y) ∙ e in
    cc

new-pages-byte : (m : Memory) (q n k a : ℕ) (x : Attrs) → attrs_at m (a / 4096) ≡ Some k → IsFree m q n → byte_at (with_new_pages m q n x) a ≡ byte_at m a
unfolding byte_at
new-pages-byte m q n k a x e f = ap (λ p. byte_cases p (a % 4096)) (page_at-with_new_pages_out n m q x (a / 4096) (mapped-not-free m q (a / 4096) n k e f))

ready-bytes : (w : World) (c a : ℕ) → IsClass c → IsSoundWorld w → attrs_at w.memory (a / 4096) ≡ Some 11 → byte_at (with_free_block w c).memory a ≡ byte_at w.memory a
unfolding with_free_block after_grow
ready-bytes w c a hc v here =
    branch (λ (r : World). byte_at r.memory a ≡ byte_at w.memory a) (is_empty (stack_of w.heap.stacks c) && nat_le (more_pages c) (pages_left w.memory)) _ w
    (λ e.
    let b = both_true (is_empty (stack_of w.heap.stacks c)) (nat_le (more_pages c) (pages_left w.memory)) e in
    let enough : more_pages c ≤ pages_left w.memory = (let f = b.1 in grind (arith, nat_tests)) in
    let may : MayGrow w.memory w.heap.stacks c (more_pages c) = record { class = hc; enough = enough; most = v.room c hc.low hc.high } in
    new-pages-byte w.memory _ (more_pages c) 11 a _ here (next-free w.memory w.heap.stacks c (more_pages c) (regions-of w.memory w.heap v.owned) may))
    (λ e. refl)

ready-cookie : (w : World) (c : ℕ) → (with_free_block w c).heap.cookie ≡ w.heap.cookie
unfolding with_free_block after_grow
ready-cookie w c = branch (λ (r : World). r.heap.cookie ≡ w.heap.cookie) (is_empty (stack_of w.heap.stacks c) && nat_le (more_pages c) (pages_left w.memory)) (after_grow w c) w (λ e. refl) (λ e. refl)

ready-in : (s : State) (c : ℕ) → IsClass c → Sound s → IsReadyIn s (with_free_block s.world c)
ready-in s c hc k = record {
  sound = (ready_sound s.world s.live.blocks c hc k.heap (blocks-of s k)).sound;
  bytes = λ a here. ready-bytes s.world c a hc k.heap here;
  cookie = ready-cookie s.world c;
}

asked_small : (size : ℕ) → size ≤ MAX_REQUEST → nonzero_size size ≤ 2 ^ 20
asked_small size l = grind (arith, nat_tests)

-- ---- the three ways

module _ (R : AllocationResult → Type 0) (o : Origin) (s : State) (a : ℕ) (k : Sound s) (al : IsAlign a)
    (none : R (no_chunk s.world))
    (block : (v : World) (p : Place) → IsReadyIn s v → IsNext v a p → R (allocation_of (after_place v o p) (Some (Small p (after_place v o p).rgsr.tag))))
    (pages : (size n start : ℕ) → IsMappable s a size n start → R (after_map_chunk s.world o size (mapping_for start n a size))) where
  taken : (v : World) (size c : ℕ) (xs : List ℕ) → IsReadyIn s v → IsClass c → 0 < size → need_of a size ≤ size_of c → stack_of v.heap.stacks c ≡ xs → R (after_take s.world v o a size c xs)
  taken v size c [] r hc pos fits e = none
  taken v size c (b ∷ more) r hc pos fits e =
      let b0 = r.sound in
      let carved : IsCarved v.heap.stacks c b = record { class = hc; block = b0.stacked.blocks c b hc (ap (λ xs. is_member xs b) e ∙ member-first b more) } in
      block v (place_in c b a size) r (record {
        place = place-in v.heap.stacks s.live.blocks v.memory c b a size b0 carved al pos fits;
        more = more;
        top = e;
        multiple = mul-mod_left ((b + 16 + (a - 1)) / a) a;
      })

  in-class : (size c : ℕ) → 0 < size → IsClassFor (need_of a size) c → R (after_class_allocation s.world o a size c)
  unfolding after_class_allocation
  in-class size c pos f = taken (with_free_block s.world c) size c (stack_of (with_free_block s.world c).heap.stacks c) (ready-in s c f.class k) f.class pos f.holds refl

  mapped : (size n : ℕ) (at : Option ℕ) → 0 < size → size ≤ 2 ^ 20 → n ≤ 4096 → need_of a size ≤ PAGE_SIZE * n → place_of s.world.heap.maps.mappings n ≡ at → R (map_chunk_cases s.world o a size n at)
  mapped size n None some small few need e = none
  mapped size n (Some start) some small few need e =
      branch R (nat_le n (pages_left s.world.memory)) (after_map_chunk s.world o size (mapping_for start n a size)) (no_chunk s.world)
      (λ t. pages size n start (record { some = some; small = small; few = few; need = need; place = e; left = grind (arith, nat_tests) }))
      (λ t. none)

  by-class : (size : ℕ) (c : Option ℕ) → 0 < size → size ≤ 2 ^ 20 → ((d : ℕ) → c ≡ Some d → IsClassFor (need_of a size) d) → R (allocate_cases s.world o a size c)
  unfolding after_large_allocation
  by-class size None some small f =
      let most = al.most in
      mapped size (pages_for (need_of a size)) (place_of s.world.heap.maps.mappings (pages_for (need_of a size))) some small (omega arith) (omega arith) refl
  by-class size (Some c) some small f = in-class size c some (f c refl)

  pub each-allocation : (size : ℕ) → R (after_allocate s.world o a size)
  unfolding after_allocate
  each-allocation size =
      let n = nonzero_size size in
      branch R (nat_le size MAX_REQUEST) (allocate_cases s.world o a n (class_for (need_of a n))) (no_chunk s.world)
      (λ t. by-class n (class_for (need_of a n)) (asked_some size) (asked_small size (grind (arith, nat_tests))) (λ c e. class-for (need_of a n) c e))
      (λ t. none)
