-- Allocation with pages of their own, step by step.
use Rattle.std.proofs.Common.{◌≡◌, ℕ, ◌+◌, ◌-◌, ◌*◌, ◌/◌, ◌%◌, ◌^◌, ◌<◌, ◌≤◌, nat_le, true, false, Some, None, sym, ap, ◌∙◌, arith}
use Rattle.std.proofs.lemmas.Bool.{cond-true, cond-false}
use Rattle.std.proofs.lemmas.Bool.Decides.{nat_tests}
use Rattle.std.proofs.Math.Nat.{mul-mod_left, div-mul-le_self, lt-div-mul-add}
use Rattle.common.specs.declared.limits.TheConstants.{PAGE_SIZE}
use Rattle.common.specs.declared.ranges.TheConstants.{SECONDARY_START, SECONDARY_END}
use Rattle.mte_tags.specs.Memory.{pages_left}
use Rattle.scudo_header.specs.declared.headers.Origin.{Origin}
use Rattle.scudo_secondary.specs.Mappings.{place_of}
use Rattle.scudo_heap.specs.Placing.{World, pages_for}
use Rattle.scudo_heap.specs.declared.request.Request.{Request}
use Rattle.scudo_heap.specs.Large.{mapping_for, large_placed}
use Rattle.scudo_secondary.specs.declared.mappings.Mapping.{Mapping}
use Rattle.scudo_heap.specs.declared.chunk.Chunk.TheVariants.{Large}
use Rattle.scudo_heap.specs.Allocation.{AllocationResult, allocation_of, no_chunk, map_chunk_cases, after_large_allocation, need_of}
use Rattle.scudo_heap.specs.Inner.{IsAlign, IsLarge, IsRequest}
use Rattle.scudo_heap.proofs.ClassLemmas.{divides}

pub is-large : (start pages align size : ℕ) → start % PAGE_SIZE ≡ 0 → SECONDARY_START + PAGE_SIZE ≤ start → start + PAGE_SIZE * pages + PAGE_SIZE ≤ SECONDARY_END → pages ≤ 4096 → IsAlign align → 0 < size → size ≤ 2 ^ 20
    → need_of align size ≤ PAGE_SIZE * pages → IsLarge (mapping_for start pages align size) size
is-large start pages align size e above below few al some small need =
    let x = start + PAGE_SIZE * pages - size in
    let least = al.least in
    let most = al.most in
    let part = al.multiple in
    let low : x / align * align ≤ x = div-mul-le_self x align in
    let near : x < x / align * align + align = lt-div-mul-add (omega arith) in
    let even : x / align * align % 16 ≡ 0 = divides (x / align * align) align (omega arith) part (mul-mod_left (x / align) align) in
    record { some = omega arith; few = few; start = omega arith; aligned = e; above = omega arith; within = omega arith; below = omega arith; unused = omega arith }

pub request-large : (start need : ℕ) (r : Request) → start % PAGE_SIZE ≡ 0 → SECONDARY_START + PAGE_SIZE ≤ start → start + PAGE_SIZE * pages_for need + PAGE_SIZE ≤ SECONDARY_END → need ≡ need_of r.align r.size → IsRequest r
    → IsLarge (mapping_for start (pages_for need) r.align r.size) r.size
request-large start need r e above below same q =
    let most = q.size.most in
    let wide = q.align.most in
    let few : pages_for need ≤ 4096 = omega arith in
    let fits : need_of r.align r.size ≤ PAGE_SIZE * pages_for need = omega arith in
    is-large start (pages_for need) r.align r.size e above below few q.align q.size.some (omega arith) fits

pub after-large-allocation-none : (w : World) (o : Origin) (a z n : ℕ) → None ≡ place_of w.heap.maps.mappings n → no_chunk w ≡ after_large_allocation w o a z n
unfolding after_large_allocation
after-large-allocation-none w o a z n e = ap (map_chunk_cases w o a z n) e

pub after-large-allocation-refused : (w : World) (o : Origin) (a z n start : ℕ) → Some start ≡ place_of w.heap.maps.mappings n → pages_left w.memory < n → no_chunk w ≡ after_large_allocation w o a z n
unfolding after_large_allocation
after-large-allocation-refused w o a z n start e l =
    let t : nat_le n (pages_left w.memory) ≡ false = grind (arith, nat_tests) in
    sym (cond-false _ _ _ t) ∙ ap (map_chunk_cases w o a z n) e

-- what a chunk with pages of its own leaves
abbrev pub after_map_chunk : World → Origin → ℕ → Mapping → AllocationResult
after_map_chunk w o z m = allocation_of (large_placed w o m z) (Some (Large m z))

pub after-large-allocation-made : (w : World) (o : Origin) (a z n start : ℕ) → Some start ≡ place_of w.heap.maps.mappings n → n ≤ pages_left w.memory → after_map_chunk w o z (mapping_for start n a z) ≡ after_large_allocation w o a z n
unfolding after_large_allocation
after-large-allocation-made w o a z n start e l =
    let t : nat_le n (pages_left w.memory) ≡ true = grind (arith, nat_tests) in
    sym (cond-true _ _ _ t) ∙ ap (map_chunk_cases w o a z n) e
