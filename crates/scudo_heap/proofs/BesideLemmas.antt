-- A new chunk lies beside a chunk that was found, which stays found.
use Rattle.std.proofs.Common.{◌≡◌, ◌≢◌, ℕ, zero, suc, ◌+◌, ◌*◌, ◌/◌, ◌^◌, ◌<◌, ◌≤◌, ◌⊎◌, ◌==◌, ◌&&◌, ◌||◌, nat_le, Bool, true, false, cond, List, [], ◌∷◌, Option, Some, None, refl, sym, ap, subst, ◌∙◌, inl, inr, arith}
use Rattle.std.proofs.lemmas.Bool.{cond-true, cond-false}
use Rattle.std.proofs.lemmas.Bool.Decides.{nat_tests}
use Rattle.std.specs.List.{find, list_any, range_with_len}
use Rattle.common.specs.declared.limits.TheConstants.{PAGE_SIZE}
use Rattle.common.specs.declared.ranges.TheConstants.{REGION_SIZE, SECONDARY_START}
use Rattle.mte_tags.specs.Memory.{Memory, pages_left}
use Rattle.scudo_header.specs.Classes.{size_of, class_for}
use Rattle.scudo_header.specs.declared.headers.Origin.{Origin}
use Rattle.scudo_header.specs.declared.headers.Origin.TheVariants.{Malloc}
use Rattle.scudo_primary.specs.Blocks.{IsBlock}
use Rattle.scudo_primary.specs.Blocks.{IsClass}
use Rattle.scudo_primary.specs.Pools.{is_member}
use Rattle.scudo_primary.proofs.ListLemmas.{member-first}
use Rattle.scudo_secondary.specs.Mappings as secondary
use Rattle.scudo_secondary.specs.Mappings.{SecondaryState, AreMappings, mapping_of, place_of, is_place, with_mapping}
use Rattle.scudo_secondary.specs.declared.mappings.Mapping.{Mapping}
use Rattle.scudo_secondary.proofs.PlaceLemmas.{place_of-fits}
use Rattle.scudo_header.specs.declared.config.TheConstants.{MAX_REQUEST}
use Rattle.scudo_heap.specs.declared.chunk.Place.{Place}
use Rattle.scudo_heap.specs.declared.chunk.Chunk.{Chunk}
use Rattle.scudo_heap.specs.declared.chunk.Chunk.TheVariants.{Small, Large}
use Rattle.scudo_heap.specs.declared.chunk.Found.{Found}
use Rattle.scudo_heap.specs.declared.chunk.Found.TheVariants.{InBlock, InPages}
use Rattle.scudo_heap.specs.Stacks.{StackState, AreSound, pages_of, stack_of, after_pop}
use Rattle.scudo_heap.specs.Heaps.{HeapState, heap_of, with_more}
use Rattle.scudo_heap.specs.Chunks.{block_end}
use Rattle.scudo_heap.specs.Placing.{World, more_pages, pages_for, after_grow, after_place}
use Rattle.scudo_heap.specs.Large.{mapping_for, large_placed}
use Rattle.scudo_heap.specs.Allocation.{AllocationResult, allocation_of, no_chunk, place_in, is_empty, with_free_block, after_take, after_class_allocation, map_chunk_cases, after_large_allocation, nonzero_size, need_of, allocate_cases, after_allocate, after_malloc}
use Rattle.scudo_heap.specs.Checks.{size_found}
use Rattle.scudo_heap.specs.Realloc.{user_of, user_of_chunk}
use Rattle.scudo_heap.specs.Served.{HeapOwnsItsPages, heap_page, is_inside}
use Rattle.scudo_heap.specs.Inner.{AreApart, IsFound, IsAlign, IsOpen}
use Rattle.scudo_heap.proofs.CheckLemmas.{mapping-bounds}
use Rattle.scudo_heap.proofs.MapLemmas.{all-apart, inside-in, inside-more, is-at}
use Rattle.scudo_heap.proofs.ClassLemmas.{fits-in, user-above}
use Rattle.scudo_heap.proofs.LargeLemmas.{after_map_chunk, is-large}
use Rattle.scudo_heap.proofs.ServedLemmas.{same-after-pop, block-open, mapping-open}
use Rattle.scudo_heap.proofs.KeptLemmas.{KeepsUsed, keeps-same, keeps-then, keeps-after-pop, keeps-after-carve, after-carve-top, in-region, blocks-apart, mapping-apart, mapping-kept}

-- ---- where chunks lie

abbrev pub start_of : Found → ℕ
start_of (InBlock p header) = p.block
start_of (InPages m header) = m.start

abbrev pub stop_of : Found → ℕ
stop_of (InBlock p header) = block_end p
stop_of (InPages m header) = secondary.end_of m

-- a new chunk of n bytes lies in a part of the heap's pages that is apart from a chunk that was
-- found, and which is still found
pub record IsBeside (m : Memory) (h : HeapState) (f : Found) (x : Chunk) (n : ℕ) : Type 0 where
  pub found : IsFound h f
  pub bytes : IsOpen m (user_of_chunk x) (user_of_chunk x + n)
  pub apart : (stop_of f ≤ user_of_chunk x) ⊎ (user_of_chunk x + n ≤ start_of f)

pub open-in : (m : Memory) (lo hi a b : ℕ) → IsOpen m lo hi → lo ≤ a → b ≤ hi → IsOpen m a b
open-in m lo hi a b o l h = let below = o.below in record { pages = λ x p q. o.pages x (omega arith) (omega arith); below = omega arith }

-- the bytes of a chunk that was found
pub record IsWithin (m : Memory) (f : Found) (n : ℕ) : Type 0 where
  pub bytes : IsOpen m (user_of f) (user_of f + n)
  pub first : start_of f ≤ user_of f
  pub last : user_of f + n ≤ stop_of f

pub found-within : (m : Memory) (h : HeapState) (f : Found) (n : ℕ) → HeapOwnsItsPages m h → AreMappings h.maps.mappings → IsFound h f → n ≤ size_found f → IsWithin m f n
found-within m h (InBlock p header) n v k e l =
    let q = e.place in
    let above = q.above in
    let within = q.within in
    let o = block-open m h p.class p.block v (record { low = q.low; high = q.high }) q.carved in
    record {
      bytes = open-in m p.block (block_end p) p.user (p.user + n) o (omega arith) (omega arith);
      first = omega arith;
      last = omega arith;
    }
found-within m h (InPages n header) k v a e l =
    let b = mapping-bounds h.maps.mappings n.user n a e in
    let first = b.first in
    let below = b.below in
    let o = mapping-open m h n v a e in
    record {
      bytes = open-in m n.start (secondary.end_of n) n.user (n.user + k) o first (omega arith);
      first = first;
      last = omega arith;
    }

pub beside-apart : (m m' : Memory) (h : HeapState) (f : Found) (x : Chunk) (n k j : ℕ) → IsBeside m h f x n → IsWithin m' f k → j ≤ n → j ≤ k → AreApart (user_of f) (user_of_chunk x) j
beside-apart m m' h f x n k j b w l u =
    let first = w.first in
    let last = w.last in
    elim b.apart [
      | inl o ↦ inl (omega arith)
      | inr o ↦ inr (omega arith)
    ]

-- ---- in a class

record IsTaken (x : World) (r : World) (c a z : ℕ) (ch : Chunk) (b : ℕ) (more : List ℕ) : Type 0 where
  stack : stack_of r.heap.stacks c ≡ b ∷ more
  user : user_of_chunk ch ≡ (place_in c b a z).user
  small : (t : ℕ) × (ch ≡ Small (place_in c b a z) t)
  heap : x.heap ≡ heap_of r.heap.cookie (after_pop r.heap.stacks c) r.heap.maps

some-of : (x y : Chunk) → Some x ≡ Some y → x ≡ y
some-of x y e = cc

heap-after-place : (r : World) (o : Origin) (p : Place) → (after_place r o p).heap ≡ heap_of r.heap.cookie (after_pop r.heap.stacks p.class) r.heap.maps
unfolding after_place
heap-after-place r o p = refl

after-take-inside : (before r x : World) (o : Origin) (a z c : ℕ) (ch : Chunk) (s : List ℕ) → stack_of r.heap.stacks c ≡ s → allocation_of x (Some ch) ≡ after_take before r o a z c s
    → (b : ℕ) × ((more : List ℕ) × IsTaken x r c a z ch b more)
after-take-inside before r x o a z c ch [] es e = let f : Some ch ≡ None = ap (λ (m : AllocationResult). m.chunk) e in cc
after-take-inside before r x o a z c ch (b ∷ more) es e =
    let p = place_in c b a z in
    let w : x ≡ after_place r o p = ap (λ (m : AllocationResult). m.world) e in
    let s : ch ≡ Small p (after_place r o p).rgsr.tag = some-of _ _ (ap (λ (m : AllocationResult). m.chunk) e) in (
      b,
      (
        more,
        record {
          stack = es;
          user = ap user_of_chunk s;
          small = ((after_place r o p).rgsr.tag, s);
          heap = ap (λ (t : World). t.heap) w ∙ heap-after-place r o p;
        },
      ),
    )

-- a class that is ready has its blocks, and others' stay used
pub record IsReady (w r : World) (c : ℕ) : Type 0 where
  pub keeps : KeepsUsed w.heap.stacks r.heap.stacks
  pub maps : r.heap.maps ≡ w.heap.maps
  pub top : (b : ℕ) (more : List ℕ) → stack_of r.heap.stacks c ≡ b ∷ more → IsBlock c (pages_of r.heap.stacks c) b

top-there : (s : StackState) (c b : ℕ) (more : List ℕ) → AreSound s → IsClass c → stack_of s c ≡ b ∷ more → IsBlock c (pages_of s c) b
top-there s c b more k h e = (k.each c h.low h.high).carved b (ap (λ t. is_member t b) e ∙ member-first b more)

pub empty-of : (s : List ℕ) → is_empty s ≡ true → s ≡ []
empty-of [] e = refl
empty-of (x ∷ xs) e = cc

and-left : (a b : Bool) → (a && b) ≡ true → a ≡ true
and-left true b h = refl
and-left false b h = h

is-after-grow : (w : World) (c : ℕ) → IsClass c → stack_of w.heap.stacks c ≡ [] → IsReady w (after_grow w c) c
unfolding after_grow
is-after-grow w c k z = record {
  keeps = keeps-after-carve w.heap.stacks c (more_pages c) k;
  maps = refl;
  top = λ b more e. after-carve-top w.heap.stacks c (more_pages c) b more k z e;
}

pub is-with-free-block : (w : World) (c : ℕ) → AreSound w.heap.stacks → IsClass c → IsReady w (with_free_block w c) c
unfolding with_free_block
is-with-free-block w c s k =
    elim (is_empty (stack_of w.heap.stacks c) && nat_le (more_pages c) (pages_left w.memory)) as (λ b. (is_empty (stack_of w.heap.stacks c) && nat_le (more_pages c) (pages_left w.memory)) ≡ b → IsReady w (cond b (after_grow w c) w) c) [
      | true ↦ λ t. is-after-grow w c k (empty-of _ (and-left _ _ t))
      | false ↦ λ t. record { keeps = keeps-same w.heap.stacks; maps = refl; top = λ b more e. top-there w.heap.stacks c b more s k e }
    ] refl

-- a chunk that was found, in a heap with other stacks
found-kept : (s s' : StackState) (k : ℕ) (ms : SecondaryState) (f : Found) → KeepsUsed s s' → IsFound (heap_of k s ms) f → IsFound (heap_of k s' ms) f
found-kept s s' k ms (InBlock p header) g e =
    let q = e.place in
    let class : IsClass p.class = record { low = q.low; high = q.high } in
    record {
      place = record { low = q.low; high = q.high; carved = g.carved p.class p.block class q.carved; aligned = q.aligned; above = q.above; some = q.some; small = q.small; within = q.within };
      used = g.used p.class p.block class q.carved e.used;
      size = e.size;
    }
found-kept s s' k ms (InPages m header) g e = e

not-both : (b : Bool) → b ≡ true → b ≡ false → ⊥
not-both true e f = cc
not-both false e f = cc

-- a found chunk and a block that is taken
block-beside : (s s' : StackState) (ms : SecondaryState) (f : Found) (k c b : ℕ) (more : List ℕ) → IsClass c → AreMappings ms.mappings → IsFound (heap_of k s ms) f → KeepsUsed s s' → stack_of s' c ≡ b ∷ more → IsBlock c (pages_of s' c) b
    → ((e : ℕ) → 0 < e → e ≤ 44 → pages_of s' e ≤ REGION_SIZE / PAGE_SIZE) → (stop_of f ≤ b) ⊎ (b + size_of c ≤ start_of f)
block-beside s s' ms (InBlock p header) k c b more kc a e g top h few =
    let q = e.place in
    let class : IsClass p.class = record { low = q.low; high = q.high } in
    let mine = g.carved p.class p.block class q.carved in
    let used = g.used p.class p.block class q.carved e.used in
    blocks-apart s' p.class c p.block b class kc mine h few (λ same at.
    not-both (is_member (stack_of s' c) b) (ap (λ t. is_member t b) top ∙ member-first b more)
    (ap (is_member (stack_of s' c)) (sym at) ∙ ap (λ t. is_member (stack_of s' t) p.block) (sym same) ∙ used))
block-beside s s' ms (InPages m header) k c b more kc a e g top h few =
    let r = in-region c (pages_of s' c) b kc h (few c kc.low kc.high) in
    let below = r.below in
    let high = kc.high in
    let n = mapping-bounds ms.mappings m.user m a e in
    let above = n.above in
    inr (omega arith)

class-beside : (w x : World) (o : Origin) (a z c : ℕ) (f : Found) (ch : Chunk) → AreSound w.heap.stacks → AreMappings w.heap.maps.mappings → HeapOwnsItsPages x.memory x.heap → IsClass c → IsAlign a → need_of a z ≤ size_of c → IsFound w.heap f
    → allocation_of x (Some ch) ≡ after_class_allocation w o a z c → IsBeside x.memory x.heap f ch z
unfolding after_class_allocation
class-beside w x o a z c f ch s ms v k al need e eq =
    let r = with_free_block w c in
    let y = after-take-inside w r x o a z c ch (stack_of r.heap.stacks c) refl eq in
    let b = y.0 in
    let t = y.1.1 in
    let is = is-with-free-block w c s k in
    let heap : x.heap ≡ heap_of r.heap.cookie (after_pop r.heap.stacks c) w.heap.maps = t.heap ∙ ap (heap_of r.heap.cookie (after_pop r.heap.stacks c)) is.maps in
    let pages = (same-after-pop r.heap.stacks c).pages in
    let stacks : x.heap.stacks ≡ after_pop r.heap.stacks c = ap (λ (h : HeapState). h.stacks) heap in
    let same : (d : ℕ) → pages_of x.heap.stacks d ≡ pages_of r.heap.stacks d = λ d. ap (λ u. pages_of u d) stacks ∙ pages d in
    let top : IsBlock c (pages_of r.heap.stacks c) b = is.top b y.1.0 t.stack in
    let fits = fits-in c (pages_of r.heap.stacks c) b a z k top al need in
    let within = fits.within in
    let least = al.least in
    let above = user-above b a (omega arith) in
    let user = t.user in
    let block = block-open x.memory x.heap c b v k (subst (λ n. IsBlock c n b) (sym (same c)) top) in
    record {
      found = subst (λ h. IsFound h f) (sym heap) (found-kept w.heap.stacks (after_pop r.heap.stacks c) r.heap.cookie w.heap.maps f (keeps-then w.heap.stacks r.heap.stacks (after_pop r.heap.stacks c) is.keeps (keeps-after-pop r.heap.stacks c)) e);
      bytes = open-in x.memory b (b + size_of c) (user_of_chunk ch) (user_of_chunk ch + z) block (omega arith) (omega arith);
      apart = elim (block-beside w.heap.stacks r.heap.stacks w.heap.maps f w.heap.cookie c b y.1.0 k ms e is.keeps t.stack top (λ d lo hi. subst (λ n. n ≤ REGION_SIZE / PAGE_SIZE) (same d) (v.few d lo hi))) [
        | inl l ↦ inl (omega arith)
        | inr l ↦ inr (omega arith)
      ];
    }

-- ---- with pages of its own

record IsMapped (w x : World) (a z n : ℕ) (ch : Chunk) (start : ℕ) : Type 0 where
  place : is_place w.heap.maps.mappings n start ≡ true
  chunk : ch ≡ Large (mapping_for start n a z) z
  heap : x.heap ≡ heap_of w.heap.cookie w.heap.stacks (with_more w.heap.maps (mapping_for start n a z))

heap-mapped : (w : World) (o : Origin) (m : Mapping) (z : ℕ) → (large_placed w o m z).heap ≡ heap_of w.heap.cookie w.heap.stacks (with_more w.heap.maps m)
unfolding large_placed
heap-mapped w o m z = refl

pub place-fits : (ms : List Mapping) (n start : ℕ) → place_of ms n ≡ Some start → is_place ms n start ≡ true
place-fits ms n start e = place_of-fits ms n (Some start) (sym e)

mapped-inside : (w x : World) (o : Origin) (a z n : ℕ) (ch : Chunk) (p : Option ℕ) → place_of w.heap.maps.mappings n ≡ p → allocation_of x (Some ch) ≡ map_chunk_cases w o a z n p → (start : ℕ) × IsMapped w x a z n ch start
mapped-inside w x o a z n ch None ep e = let f : Some ch ≡ None = ap (λ (m : AllocationResult). m.chunk) e in cc
mapped-inside w x o a z n ch (Some start) ep e =
    let m = mapping_for start n a z in
    elim (nat_le n (pages_left w.memory)) as (λ b. allocation_of x (Some ch) ≡ cond b (after_map_chunk w o z m) (no_chunk w) → (start : ℕ) × IsMapped w x a z n ch start) [
      | true ↦ λ f. (
        start,
        record {
          place = place-fits w.heap.maps.mappings n start ep;
          chunk = some-of _ _ (ap (λ (m : AllocationResult). m.chunk) f);
          heap = ap (λ (t : AllocationResult). t.world.heap) f ∙ heap-mapped w o m z;
        },
      )
      | false ↦ λ f. (let g : Some ch ≡ None = ap (λ (m : AllocationResult). m.chunk) f in cc)
    ] e

more-mappings : (ms : SecondaryState) (m : Mapping) → (with_more ms m).mappings ≡ with_mapping ms.mappings m
unfolding with_more
more-mappings ms m = refl

-- a found chunk and pages that are mapped
pages-check-pointer : (s : StackState) (ms : SecondaryState) (f : Found) (k : ℕ) (m : Mapping) → AreMappings ms.mappings → is_place ms.mappings m.pages m.start ≡ true → m.start ≤ m.user → m.user < secondary.end_of m → IsFound (heap_of k s ms) f
    → IsFound (heap_of k s (with_more ms m)) f
pages-check-pointer s ms (InBlock p header) k m a place first last e = e
pages-check-pointer s ms (InPages n header) k m a place first last e =
    let b = mapping-bounds ms.mappings n.user n a e in
    let low = b.first in
    let high = b.below in
    let other : m.user ≢ n.user = λ q. elim (mapping-apart ms.mappings m.pages m.start n.user n (all-apart ms.mappings m.pages m.start place) e) [
      | inl o ↦ omega arith
      | inr o ↦ omega arith
    ] in
    e ∙ sym (ap (λ t. mapping_of t n.user) (more-mappings ms m) ∙ mapping-kept ms.mappings m n.user other)

pages-beside : (s : StackState) (ms : SecondaryState) (f : Found) (k n user z : ℕ) (m : Mapping) → AreMappings ms.mappings → is_place ms.mappings m.pages m.start ≡ true → m.start ≤ user → user + z ≤ secondary.end_of m → IsFound (heap_of k s ms) f
    → ((e : ℕ) → 0 < e → e ≤ 44 → pages_of s e ≤ REGION_SIZE / PAGE_SIZE) → SECONDARY_START ≤ m.start → (stop_of f ≤ user) ⊎ (user + z ≤ start_of f)
pages-beside s ms (InBlock p header) k n user z m a place first last e few high =
    let q = e.place in
    let r = in-region p.class (pages_of s p.class) p.block (record { low = q.low; high = q.high }) q.carved (few p.class q.low q.high) in
    let below = r.below in
    let class = q.high in
    inl (omega arith)
pages-beside s ms (InPages j header) k n user z m a place first last e few high =
    elim (mapping-apart ms.mappings m.pages m.start j.user j (all-apart ms.mappings m.pages m.start place) e) [
      | inl o ↦ inl (omega arith)
      | inr o ↦ inr (omega arith)
    ]

mapping-beside : (w x : World) (o : Origin) (a z n : ℕ) (f : Found) (ch : Chunk) → AreMappings w.heap.maps.mappings → HeapOwnsItsPages x.memory x.heap → IsAlign a → 0 < z → z ≤ 2 ^ 20 → n ≤ 4096 → need_of a z ≤ PAGE_SIZE * n → IsFound w.heap f
    → allocation_of x (Some ch) ≡ after_large_allocation w o a z n → IsBeside x.memory x.heap f ch z
unfolding after_large_allocation
mapping-beside w x o a z n f ch ms v al some small few need e eq =
    let y = mapped-inside w x o a z n ch (place_of w.heap.maps.mappings n) refl eq in
    let start = y.0 in
    let m = mapping_for start n a z in
    let t = y.1 in
    let at = is-at w.heap.maps.mappings n start t.place in
    let high = at.above in
    let last = at.below in
    let large = is-large start n a z at.aligned at.above at.below few al some small need in
    let above = large.above in
    let within = large.within in
    let below = large.below in
    let user : user_of_chunk ch ≡ m.user = ap user_of_chunk t.chunk in
    let stacks : x.heap.stacks ≡ w.heap.stacks = ap (λ (h : HeapState). h.stacks) t.heap in
    let list : x.heap.maps.mappings ≡ with_mapping w.heap.maps.mappings m = ap (λ (h : HeapState). h.maps.mappings) t.heap ∙ more-mappings w.heap.maps m in
    let inside : (i : ℕ) → m.start ≤ i → i < secondary.end_of m → list_any (is_inside i) x.heap.maps.mappings ≡ true = λ i l h.
    ap (list_any (is_inside i)) list ∙ inside-more w.heap.maps.mappings m i ∙ ap (λ b. b || list_any (is_inside i) w.heap.maps.mappings) (inside-in i m l h) in
    record {
      found = subst (λ h. IsFound h f) (sym t.heap) (pages-check-pointer w.heap.stacks w.heap.maps f w.heap.cookie m ms t.place (omega arith) below e);
      bytes = record {
        pages = λ i l h. v.mappings i (omega arith) (omega arith) ∙ ap heap_page (inside i (omega arith) (omega arith));
        below = omega arith;
      };
      apart = pages-beside w.heap.stacks w.heap.maps f w.heap.cookie n (user_of_chunk ch) z m ms t.place (omega arith) (omega arith) e
          (λ d lo hi. subst (λ q. pages_of q d ≤ REGION_SIZE / PAGE_SIZE) stacks (v.few d lo hi)) (omega arith);
    }

-- ---- malloc

pub record IsEnough (c need : ℕ) : Type 0 where
  pub low : 0 < c
  pub high : c ≤ 44
  pub holds : need ≤ size_of c

enough-from : (n from need c : ℕ) → 0 < from → from + n ≤ 45 → find (λ class. nat_le need (size_of class)) (range_with_len from n) ≡ Some c → IsEnough c need
enough-from zero from need c l h e = cc
enough-from (suc n) from need c l h e =
    elim (nat_le need (size_of from)) as (λ b. nat_le need (size_of from) ≡ b → cond b (Some from) (find (λ class. nat_le need (size_of class)) (range_with_len (from + 1) n)) ≡ Some c → IsEnough c need) [
      | true ↦ λ t f. (let same : from ≡ c = cc in
          let holds : need ≤ size_of from = grind (arith, nat_tests) in
          record { low = omega arith; high = omega arith; holds = subst (λ k. need ≤ size_of k) same holds })
      | false ↦ λ t f. enough-from n (from + 1) need c (omega arith) (omega arith) f
    ] refl e

pub class-enough : (need c : ℕ) → class_for need ≡ Some c → IsEnough c need
unfolding class_for
class-enough need c e = enough-from 44 1 need c (omega arith) (omega arith) e

made-beside : (w x : World) (z : ℕ) (f : Found) (ch : Chunk) (c : Option ℕ) → AreSound w.heap.stacks → AreMappings w.heap.maps.mappings → HeapOwnsItsPages x.memory x.heap → 0 < z → z ≤ 2 ^ 20 → IsFound w.heap f → class_for (need_of 16 z) ≡ c
    → allocation_of x (Some ch) ≡ allocate_cases w Malloc 16 z c → IsBeside x.memory x.heap f ch z
made-beside w x z f ch None s ms v some small e ec eq =
    let al : IsAlign 16 = record { least = omega arith; most = omega arith; multiple = refl } in
    mapping-beside w x Malloc 16 z (pages_for (need_of 16 z)) f ch ms v al some small (omega arith) (omega arith) e eq
made-beside w x z f ch (Some c) s ms v some small e ec eq =
    let al : IsAlign 16 = record { least = omega arith; most = omega arith; multiple = refl } in
    let k = class-enough (need_of 16 z) c ec in
    class-beside w x Malloc 16 z c f ch s ms v (record { low = k.low; high = k.high }) al k.holds e eq

nonzero-size-some : (z : ℕ) → 0 < z → nonzero_size z ≡ z
nonzero-size-some z l = let t : (z == 0) ≡ false = grind (arith, nat_tests) in cond-false _ _ _ t

pub malloc-beside : (w x : World) (z : ℕ) (f : Found) (ch : Chunk) → AreSound w.heap.stacks → AreMappings w.heap.maps.mappings → HeapOwnsItsPages x.memory x.heap → 0 < z → z ≤ MAX_REQUEST → IsFound w.heap f
    → allocation_of x (Some ch) ≡ after_malloc w z → IsBeside x.memory x.heap f ch z
unfolding after_malloc after_allocate
malloc-beside w x z f ch s ms v some small e eq =
    let t : nat_le z MAX_REQUEST ≡ true = grind (arith, nat_tests) in
    made-beside w x z f ch (class_for (need_of 16 z)) s ms v some (omega arith) e refl
    (eq ∙ cond-true _ _ _ t ∙ ap (λ n. allocate_cases w Malloc 16 n (class_for (need_of 16 n))) (nonzero-size-some z some))

-- ---- no chunk is made

no-after-take : (w r x : World) (o : Origin) (a z c : ℕ) (s : List ℕ) → allocation_of x None ≡ after_take w r o a z c s → x ≡ w
no-after-take w r x o a z c [] e = ap (λ (m : AllocationResult). m.world) e
no-after-take w r x o a z c (b ∷ more) e = let f : None ≡ Some (Small (place_in c b a z) (after_place r o (place_in c b a z)).rgsr.tag) = ap (λ (m : AllocationResult). m.chunk) e in cc

no-class : (w x : World) (o : Origin) (a z c : ℕ) → allocation_of x None ≡ after_class_allocation w o a z c → x ≡ w
unfolding after_class_allocation
no-class w x o a z c e = no-after-take w (with_free_block w c) x o a z c (stack_of (with_free_block w c).heap.stacks c) e

no-mapped : (w x : World) (o : Origin) (a z n : ℕ) (p : Option ℕ) → allocation_of x None ≡ map_chunk_cases w o a z n p → x ≡ w
no-mapped w x o a z n None e = ap (λ (m : AllocationResult). m.world) e
no-mapped w x o a z n (Some start) e =
    let m = mapping_for start n a z in
    elim (nat_le n (pages_left w.memory)) as (λ b. allocation_of x None ≡ cond b (after_map_chunk w o z m) (no_chunk w) → x ≡ w) [
      | true ↦ λ f. (let g : None ≡ Some (Large m z) = ap (λ (m : AllocationResult). m.chunk) f in cc)
      | false ↦ λ f. ap (λ (m : AllocationResult). m.world) f
    ] e

no-mapping : (w x : World) (o : Origin) (a z n : ℕ) → allocation_of x None ≡ after_large_allocation w o a z n → x ≡ w
unfolding after_large_allocation
no-mapping w x o a z n e = no-mapped w x o a z n (place_of w.heap.maps.mappings n) e

no-made : (w x : World) (o : Origin) (a z : ℕ) (c : Option ℕ) → allocation_of x None ≡ allocate_cases w o a z c → x ≡ w
no-made w x o a z None e = no-mapping w x o a z (pages_for (need_of a z)) e
no-made w x o a z (Some c) e = no-class w x o a z c e

pub malloc-none : (w x : World) (z : ℕ) → allocation_of x None ≡ after_malloc w z → x ≡ w
unfolding after_malloc after_allocate
malloc-none w x z e =
    elim (nat_le z MAX_REQUEST) as (λ b. allocation_of x None ≡ cond b (allocate_cases w Malloc 16 (nonzero_size z) (class_for (need_of 16 (nonzero_size z)))) (no_chunk w) → x ≡ w) [
      | true ↦ λ f. no-made w x Malloc 16 (nonzero_size z) (class_for (need_of 16 (nonzero_size z))) f
      | false ↦ λ f. ap (λ (m : AllocationResult). m.world) f
    ] e
