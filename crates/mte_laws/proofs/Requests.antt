-- malloc, calloc and memalign make a chunk where the heap can hold it.
use Rattle.std.proofs.Common.{◌≡◌, ◌≢◌, ℕ, ◌*◌, ◌≤◌, ◌⊎◌, ◌&&◌, nat_le, max, true, false, Some, List, [], ◌∷◌, refl, sym, ap, subst, ◌∙◌, inl, inr, arith}
use Rattle.std.specs.Prelude.{IsSome}
use Rattle.std.proofs.lemmas.Bool.{cond-true, cond-false}
use Rattle.std.proofs.lemmas.Bool.Decides.{nat_tests}
use Rattle.common.specs.declared.limits.TheConstants.{PAGE_SIZE}
use Rattle.mte_tags.specs.Memory.{pages_left}
use Rattle.scudo_header.specs.Classes.{class_for, size_of}
use Rattle.scudo_header.specs.declared.headers.Origin.{Origin}
use Rattle.scudo_header.specs.declared.headers.Origin.TheVariants as origin
use Rattle.scudo_header.specs.declared.config.TheConstants.{MAX_REQUEST}
use Rattle.scudo_secondary.specs.Mappings.{place_of}
use Rattle.scudo_heap.specs.Stacks.{stack_of}
use Rattle.scudo_heap.specs.Placing.{World, more_pages, pages_for, after_grow}
use Rattle.scudo_heap.specs.Allocation.{AllocationResult, need_of, nonzero_size, is_empty, with_free_block, after_take, after_class_allocation, map_chunk_cases, after_large_allocation, allocate_cases, after_allocate, after_malloc, after_calloc, after_memalign}
use Rattle.scudo_heap.proofs.ServedLemmas.{grown-some}
use Rattle.mte_laws.proofs.SoundAllocations.{class-for}
use Rattle.mte_laws.specs.Requests.{CanHold, free, grows, maps, MallocsAreAnswered}

-- ---- a list that is not empty

taken-some : (v w : World) (o : Origin) (a z c : ℕ) (xs : List ℕ) → xs ≢ [] → IsSome (after_take v w o a z c xs).chunk
taken-some v w o a z c [] n = absurd (n refl)
taken-some v w o a z c (b ∷ more) n = refl

full-is : (xs : List ℕ) → xs ≢ [] → is_empty xs ≡ false
full-is [] n = absurd (n refl)
full-is (b ∷ more) n = refl

empty-or : (xs : List ℕ) → (xs ≡ []) ⊎ (xs ≢ [])
empty-or [] = inl refl
empty-or (b ∷ more) = inr (λ e. cc)

-- ---- a class with a free block, or one that gets pages

free-some : (w : World) (o : Origin) (a z c : ℕ) → stack_of w.heap.stacks c ≢ [] → IsSome (after_class_allocation w o a z c).chunk
unfolding after_class_allocation with_free_block
free-some w o a z c n =
    let same : with_free_block w c ≡ w = cond-false _ _ _ (ap (λ t. t && nat_le (more_pages c) (pages_left w.memory)) (full-is (stack_of w.heap.stacks c) n)) in
    subst (λ (r : World). IsSome (after_take w r o a z c (stack_of r.heap.stacks c)).chunk) (sym same) (taken-some w w o a z c (stack_of w.heap.stacks c) n)

grown-class : (w : World) (o : Origin) (a z c : ℕ) → stack_of w.heap.stacks c ≡ [] → more_pages c ≤ pages_left w.memory → stack_of (after_grow w c).heap.stacks c ≢ [] → IsSome (after_class_allocation w o a z c).chunk
unfolding after_class_allocation with_free_block
grown-class w o a z c e l n =
    let fits : nat_le (more_pages c) (pages_left w.memory) ≡ true = grind (arith, nat_tests) in
    let same : with_free_block w c ≡ after_grow w c = cond-true _ _ _ (ap (λ t. t && nat_le (more_pages c) (pages_left w.memory)) (ap is_empty e) ∙ fits) in
    subst (λ (r : World). IsSome (after_take w r o a z c (stack_of r.heap.stacks c)).chunk) (sym same) (taken-some w (after_grow w c) o a z c (stack_of (after_grow w c).heap.stacks c) n)

grows-some : (w : World) (o : Origin) (a z c : ℕ) → class_for (need_of a z) ≡ Some c → more_pages c ≤ pages_left w.memory → IsSome (after_class_allocation w o a z c).chunk
unfolding after_grow
grows-some w o a z c e l =
    let f = class-for (need_of a z) c e in
    let big : size_of c ≤ PAGE_SIZE * more_pages c = omega arith in
    let grown : stack_of (after_grow w c).heap.stacks c ≢ [] = grown-some w.heap.stacks c (more_pages c) f.class big in
    elim (empty-or (stack_of w.heap.stacks c)) [
      | inl q ↦ grown-class w o a z c q l grown
      | inr n ↦ free-some w o a z c n
    ]

-- ---- pages of its own

maps-some : (w : World) (o : Origin) (a z n start : ℕ) → place_of w.heap.maps.mappings n ≡ Some start → n ≤ pages_left w.memory → IsSome (after_large_allocation w o a z n).chunk
unfolding after_large_allocation
maps-some w o a z n start e l =
    let fits : nat_le n (pages_left w.memory) ≡ true = grind (arith, nat_tests) in
    let made : IsSome (map_chunk_cases w o a z n (Some start)).chunk = subst (λ (r : AllocationResult). IsSome r.chunk) (sym (cond-true _ _ _ fits)) refl in
    subst (λ t. IsSome (map_chunk_cases w o a z n t).chunk) (sym e) made

-- ---- the calls

held : (w : World) (o : Origin) (a z : ℕ) → CanHold w (need_of a z) → IsSome (allocate_cases w o a z (class_for (need_of a z))).chunk
held w o a z (free c e n) = subst (λ t. IsSome (allocate_cases w o a z t).chunk) (sym e) (free-some w o a z c n)
held w o a z (grows c e l) = subst (λ t. IsSome (allocate_cases w o a z t).chunk) (sym e) (grows-some w o a z c e l)
held w o a z (maps start e at l) = subst (λ t. IsSome (allocate_cases w o a z t).chunk) (sym e) (maps-some w o a z (pages_for (need_of a z)) start at l)

allocated : (w : World) (o : Origin) (a size : ℕ) → size ≤ MAX_REQUEST → CanHold w (need_of a (nonzero_size size)) → IsSome (after_allocate w o a size).chunk
unfolding after_allocate
allocated w o a size most h =
    let fits : nat_le size MAX_REQUEST ≡ true = grind (arith, nat_tests) in
    subst (λ (r : AllocationResult). IsSome r.chunk) (sym (cond-true _ _ _ fits)) (held w o a (nonzero_size size) h)

pub answered : MallocsAreAnswered
unfolding after_malloc after_calloc after_memalign
answered = record {
  malloc = λ w size most h. allocated w origin.Malloc 16 size most h;
  calloc = λ w count size most h. allocated w origin.Malloc 16 (count * size) most h;
  memalign = λ w align size most is h. subst (λ (r : AllocationResult). IsSome r.chunk) (sym (cond-true _ _ _ is)) (allocated w origin.Memalign (max align 16) size most h);
}
