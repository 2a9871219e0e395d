-- free and usable_size by what the checks find.
use Rattle.std.proofs.Common.{◌≡◌, ◌≢◌, ℕ, ◌+◌, ◌==◌, false, Result, Ok, sym, ap, ◌∙◌, eq-eqb, arith}
use Rattle.std.proofs.lemmas.Bool.{cond-true, cond-false}
use Rattle.std.proofs.lemmas.Bool.Decides.{nat_tests}
use Rattle.a64_bits.specs.Addresses.{plain}
use Rattle.mte_tags.specs.Memory.{Memory}
use Rattle.scudo_header.specs.declared.headers.Header.{Header}
use Rattle.scudo_heap.specs.declared.chunk.Place.{Place}
use Rattle.scudo_heap.specs.declared.chunk.Found.{Found}
use Rattle.scudo_heap.specs.declared.abort.HeapAbort.{HeapAbort}
use Rattle.scudo_heap.specs.Heaps.{HeapState}
use Rattle.scudo_heap.specs.Placing.{World}
use Rattle.scudo_heap.specs.Checks.{check_pointer, usable_size_cases}
use Rattle.scudo_heap.specs.Served.{HeapOwnsItsPages}
use Rattle.scudo_heap.specs.Inner.{IsFoundBlock, IsOpen}
use Rattle.scudo_heap.proofs.ServedLemmas.{block-open}
use Rattle.scudo_heap.specs.Freeing.{free_cases, free_of, usable_size_of}

pub free-null : (w : World) (p : ℕ) → p ≡ 0 → record { world = w; result = Ok tt } ≡ free_of w p
unfolding free_of
free-null w p e = sym (cond-true _ _ _ (eq-eqb p 0 e))

pub free-by : (w : World) (p : ℕ) (r : Result Found HeapAbort) → p ≢ 0 → r ≡ check_pointer w.memory w.heap (plain p) → free_cases w r ≡ free_of w p
unfolding free_of
free-by w p r n e = let t : (p == 0) ≡ false = grind (arith, nat_tests) in ap (free_cases w) e ∙ sym (cond-false _ _ _ t)

pub usable-null : (m : Memory) (h : HeapState) (p : ℕ) → p ≡ 0 → Ok 0 ≡ usable_size_of m h p
unfolding usable_size_of
usable-null m h p e = sym (cond-true _ _ _ (eq-eqb p 0 e))

pub usable-by : (m : Memory) (h : HeapState) (p : ℕ) (r : Result Found HeapAbort) → p ≢ 0 → r ≡ check_pointer m h (plain p) → usable_size_cases r ≡ usable_size_of m h p
unfolding usable_size_of
usable-by m h p r n e = let t : (p == 0) ≡ false = grind (arith, nat_tests) in ap usable_size_cases e ∙ sym (cond-false _ _ _ t)

-- the first granule of a chunk of a size class that was found
pub found-open : (m : Memory) (h : HeapState) (p : Place) (header : Header) → HeapOwnsItsPages m h → IsFoundBlock h.stacks p header → IsOpen m p.user (p.user + 1)
found-open m h p header v f =
    let q = f.place in
    let o = block-open m h p.class p.block v (record { low = q.low; high = q.high }) q.carved in
    let below = o.below in
    let above = q.above in
    let some = q.some in
    let within = q.within in
    record { pages = λ a l u. o.pages a (omega arith) (omega arith); below = omega arith }
