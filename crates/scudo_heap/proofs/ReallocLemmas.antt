-- realloc by what the checks find, and by the new size.
use Rattle.std.proofs.Common.{◌≡◌, ◌≢◌, ℕ, ◌%◌, ◌^◌, ◌<◌, ◌≤◌, ◌==◌, nat_le, true, false, None, Result, refl, sym, ap, ◌∙◌, eq-eqb, arith}
use Rattle.std.proofs.lemmas.Bool.{cond-true, cond-false}
use Rattle.std.proofs.lemmas.Bool.Decides.{nat_tests}
use Rattle.a64_bits.specs.Addresses.{plain}
use Rattle.scudo_header.specs.declared.headers.Header.{Header}
use Rattle.scudo_primary.specs.Blocks.{IsClass}
use Rattle.scudo_primary.proofs.BlockLemmas.{size-IsSize, block-IsCell}
use Rattle.scudo_secondary.specs.declared.mappings.Mapping.{Mapping}
use Rattle.scudo_header.specs.declared.config.TheConstants.{MAX_REQUEST}
use Rattle.scudo_heap.specs.declared.abort.HeapAbort.{HeapAbort}
use Rattle.scudo_heap.specs.declared.chunk.Place.{Place}
use Rattle.scudo_heap.specs.declared.chunk.Found.{Found}
use Rattle.scudo_heap.specs.declared.chunk.Found.TheVariants.{InBlock, InPages}
use Rattle.scudo_heap.specs.Stacks.{StackState, pages_of}
use Rattle.scudo_heap.specs.Chunks.{end_of, block_end, with_size}
use Rattle.scudo_heap.specs.Placing.{World}
use Rattle.scudo_heap.specs.Allocation.{allocation_of, no_chunk, after_malloc}
use Rattle.scudo_heap.specs.Checks.{check_pointer}
use Rattle.scudo_heap.specs.Freeing.{without_chunk}
use Rattle.scudo_heap.specs.Realloc.{reallocation_of, after_move, after_resize_in_block, with_new_size, realloc_cases, checked_realloc_cases, after_realloc}
use Rattle.scudo_heap.specs.Inner.{IsPlaced, FitsIn}

pub realloc-null : (w : World) (p n : ℕ) → p ≡ 0 → reallocation_of (after_malloc w n) ≡ after_realloc w p n
unfolding after_realloc
realloc-null w p n e = sym (cond-true _ _ _ (eq-eqb p 0 e))

pub realloc-by : (w : World) (p n : ℕ) (r : Result Found HeapAbort) → p ≢ 0 → r ≡ check_pointer w.memory w.heap (plain p) → checked_realloc_cases w n r ≡ after_realloc w p n
unfolding after_realloc
realloc-by w p n r o e = let t : (p == 0) ≡ false = grind (arith, nat_tests) in ap (checked_realloc_cases w n) e ∙ sym (cond-false _ _ _ t)

pub realloc-cases-none : (w : World) (f : Found) (n : ℕ) → n ≡ 0 → allocation_of (without_chunk w f) None ≡ realloc_cases w f n
unfolding realloc_cases
realloc-cases-none w f n e = sym (cond-true _ _ _ (eq-eqb n 0 e))

pub realloc-cases-over : (w : World) (f : Found) (n : ℕ) → n ≢ 0 → MAX_REQUEST < n → no_chunk w ≡ realloc_cases w f n
unfolding realloc_cases
realloc-cases-over w f n o l =
    let t : (n == 0) ≡ false = grind (arith, nat_tests) in
    let u : nat_le n MAX_REQUEST ≡ false = grind (arith, nat_tests) in
    sym (cond-false _ _ _ t ∙ cond-false _ _ _ u)

pub realloc-cases-some : (w : World) (f : Found) (n : ℕ) → n ≢ 0 → n ≤ MAX_REQUEST → with_new_size w f n ≡ realloc_cases w f n
unfolding realloc_cases
realloc-cases-some w f n o l =
    let t : (n == 0) ≡ false = grind (arith, nat_tests) in
    let u : nat_le n MAX_REQUEST ≡ true = grind (arith, nat_tests) in
    sym (cond-false _ _ _ t ∙ cond-true _ _ _ u)

pub size-in_place : (w : World) (p : Place) (header : Header) (n : ℕ) → nat_le (end_of (with_size p n)) (block_end p) ≡ true → after_resize_in_block w p header n ≡ with_new_size w (InBlock p header) n
unfolding with_new_size
size-in_place w p header n t = sym (cond-true _ _ _ t)

pub size-after-move : (w : World) (p : Place) (header : Header) (n : ℕ) → nat_le (end_of (with_size p n)) (block_end p) ≡ false → after_move w (InBlock p header) n ≡ with_new_size w (InBlock p header) n
unfolding with_new_size
size-after-move w p header n t = sym (cond-false _ _ _ t)

pub size-pages : (w : World) (m : Mapping) (header : Header) (n : ℕ) → after_move w (InPages m header) n ≡ with_new_size w (InPages m header) n
unfolding with_new_size
size-pages w m header n = refl

pub holds-of : (p : Place) (n : ℕ) → nat_le (end_of (with_size p n)) (block_end p) ≡ true → end_of (with_size p n) ≤ block_end p
holds-of p n t = grind (arith, nat_tests)

-- a size that a block holds
pub small-in_place : (s : StackState) (p : Place) (n : ℕ) → IsPlaced s p → end_of (with_size p n) ≤ block_end p → n < 2 ^ 20
small-in_place s p n q l =
    let above = q.above in
    let most = (size-IsSize p.class (record { low = q.low; high = q.high })).most in
    omega arith

pub whole-block : (s : StackState) (p : Place) → IsPlaced s p → block_end p % 16 ≡ 0
whole-block s p q =
    let class : IsClass p.class = record { low = q.low; high = q.high } in
    let multiple = (size-IsSize p.class class).multiple in
    let cell = block-IsCell p.class (pages_of s p.class) p.block class q.carved in
    let granule = cell.granule in
    let inside = cell.inside in
    omega arith

pub placed-fits : (s : StackState) (p : Place) → IsPlaced s p → FitsIn p
placed-fits s p q =
    record { class = record { low = q.low; high = q.high }; aligned = q.aligned; whole = whole-block s p q; above = q.above; some = q.some; small = q.small; within = q.within }

pub resized-fits : (s : StackState) (p : Place) (n : ℕ) → IsPlaced s p → 0 < n → end_of (with_size p n) ≤ block_end p → FitsIn (with_size p n)
resized-fits s p n q some l =
    record { class = record { low = q.low; high = q.high }; aligned = q.aligned; whole = whole-block s p q; above = q.above; some = some; small = small-in_place s p n q l; within = l }
