-- A careful pointer names a live chunk.
use Rattle.std.proofs.Common.{◌≡◌, ◌≢◌, ℕ, ◌-◌, ◌/◌, ◌%◌, ◌==◌, ◌&&◌, nat_le, Bool, true, false, cond, Some, Result, Ok, Err, sym, ap, subst, ◌∙◌, inl, inr, eq-eqb, arith}
use Rattle.std.proofs.lemmas.Bool.{cond-true}
use Rattle.a64_bits.specs.Addresses.{plain}
use Rattle.mte_tags.specs.Memory.{Memory, page_has, has_cases}
use Rattle.std.proofs.lemmas.Bool.Decides.{nat_tests}
use Rattle.common.specs.declared.limits.TheConstants.{PAGE_SIZE}
use Rattle.scudo_heap.proofs.ServedLemmas.{mapping-open}
use Rattle.scudo_header.specs.Headers.{state_number}
use Rattle.scudo_header.specs.declared.headers.Header.{Header}
use Rattle.scudo_secondary.specs.Mappings.{mapping_of, end_of}
use Rattle.scudo_secondary.specs.declared.mappings.Mapping.{Mapping}
use Rattle.scudo_heap.specs.declared.abort.HeapAbort.{HeapAbort}
use Rattle.scudo_heap.specs.declared.abort.HeapAbort.TheVariants.{Misaligned, Unmapped, NotABlock}
use Rattle.scudo_heap.specs.declared.chunk.Found.{Found}
use Rattle.scudo_heap.specs.declared.chunk.Found.TheVariants.{InBlock, InPages}
use Rattle.scudo_heap.specs.Heaps.{HeapState}
use Rattle.scudo_heap.specs.Checks.{is_mapped, is_allocated, header_at, check_mapping, check_chunk, check_header, check_pointer}
use Rattle.mte_laws.specs.LiveChunks.{BlockChunk, chunk_at}
use Rattle.mte_laws.specs.LivePages.{PageChunk, large_at}
use Rattle.mte_laws.specs.CarefulRuns.{State, IsPointerTo, IsLiveLarge, HasHeader, found_at}
use Rattle.mte_laws.specs.SoundHeaps.{Sound}
use Rattle.mte_laws.proofs.SoundFrees.{AreSmall, read_back, check-pointer-live}
use Rattle.mte_laws.proofs.Larges.{check-pointer-of}
use Rattle.mte_laws.proofs.Serving.{blocks-of}

-- the live chunk that the checks found
pub data IsListed (s : State) : Found → Type 0 where
  block : (x : BlockChunk) → chunk_at s.live.blocks x.place.user ≡ Some x → IsListed s (InBlock x.place x.header)
  pages : (x : PageChunk) → large_at s.live.pages x.mapping.user ≡ Some x → IsListed s (InPages x.mapping x.header)

pub same_found : (r : Result Found HeapAbort) (f g : Found) → r ≡ Ok f → r ≡ Ok g → f ≡ g
same_found r f g a b = cc

-- where the checks pass, what the header says decides
passes : (a b : Bool) (x : Result Found HeapAbort) (f : Found) → cond a (cond b x (Err Unmapped)) (Err Misaligned) ≡ Ok f → x ≡ Ok f
passes true true x f e = e
passes true false x f e = cc
passes false b x f e = cc

by-header : (m : Memory) (h : HeapState) (u : ℕ) (header : Header) (f : Found) → header_at m h.cookie u ≡ Some header → check_pointer m h u ≡ Ok f → check_header h u (Some header) ≡ Ok f
unfolding check_pointer
by-header m h u header f e k = ap (check_header h u) (sym e) ∙ passes (u % 16 == 0) (is_mapped m u) (check_header h u (header_at m h.cookie u)) f k

in_mapping : (b : Bool) (m : Mapping) (header : Header) (f : Found) → cond b (Ok (InPages m header)) (Err NotABlock) ≡ Ok f → InPages m header ≡ f
in_mapping true m header f e = cc
in_mapping false m header f e = cc

large-check-pointer : (s : State) (u : ℕ) (x : PageChunk) (f : Found) → Sound s → IsLiveLarge s u x → check_pointer s.world.memory s.world.heap u ≡ Ok f → InPages x.mapping x.header ≡ f
unfolding check_chunk
large-check-pointer s u x f k l e =
    let h = k.large.header u x l.live in
    let class = h.class in
    let offset = h.offset in
    let sm : AreSmall x.header = record { class = omega arith; state = ap state_number h.state; size = h.fits; offset = omega arith } in
    let there = k.large.place u x l.live in
    let a : is_allocated x.header.state ≡ true = ap is_allocated h.state in
    let z : (x.header.class_id == 0) ≡ true = eq-eqb _ _ class in
    let by = by-header s.world.memory s.world.heap u x.header f (read_back s.world.memory s.world.heap.cookie u x.header sm l.header) e in
    in_mapping ((x.header.offset == 0) && nat_le x.header.size_or_unused_bytes (end_of x.mapping - x.mapping.user)) x.mapping x.header f
    (sym (cond-true _ _ _ a ∙ cond-true _ _ _ z ∙ ap (check_mapping x.header) there) ∙ by)

pub listed : (s : State) (pointer : ℕ) (f : Found) → Sound s → IsPointerTo s pointer → pointer ≢ 0 → found_at s.world pointer ≡ Ok f → IsListed s f
listed s pointer f k careful n e = elim (careful n f e) [
  | inl l ↦
      let x = l.0 in
      let here : x.place.user ≡ plain pointer = k.placed.user (plain pointer) x l.1.live in
      let live : chunk_at s.live.blocks x.place.user ≡ Some x = ap (chunk_at s.live.blocks) here ∙ l.1.live in
      let header = subst (λ u. HasHeader s.world u x.header) (sym here) l.1.header in
      let g = check-pointer-live s.world s.live.blocks x (blocks-of s k) live header in
      subst (IsListed s) (same_found (found_at s.world pointer) (InBlock x.place x.header) f (ap (check_pointer s.world.memory s.world.heap) (sym here) ∙ g) e) (block x live)
  | inr l ↦
      let x = l.0 in
      let there = k.large.place (plain pointer) x l.1.live in
      let at = check-pointer-of s.world.heap.maps.mappings (plain pointer) x.mapping k.heap.parts.mappings there in
      let live : large_at s.live.pages x.mapping.user ≡ Some x = ap (large_at s.live.pages) at.user ∙ l.1.live in
      subst (IsListed s) (large-check-pointer s (plain pointer) x f k l.1 e) (pages x live)
]

-- ---- the checks find a live chunk with pages of its own

both : (a b : Bool) → a ≡ true → b ≡ true → (a && b) ≡ true
both true b e f = f
both false b e f = cc

pub large-named : (s : State) (pointer : ℕ) (x : PageChunk) → Sound s → IsLiveLarge s (plain pointer) x → found_at s.world pointer ≡ Ok (InPages x.mapping x.header)
unfolding check_pointer check_chunk header_at page_has
large-named s pointer x k l =
    let m = s.world.memory in
    let h = s.world.heap in
    let u = plain pointer in
    let hd = k.large.header u x l.live in
    let class = hd.class in
    let offset = hd.offset in
    let unused = hd.unused in
    let sm : AreSmall x.header = record { class = omega arith; state = ap state_number hd.state; size = hd.fits; offset = omega arith } in
    let there = k.large.place u x l.live in
    let f = check-pointer-of h.maps.mappings u x.mapping k.heap.parts.mappings there in
    let last = f.last in
    let user : x.mapping.user ≡ u = f.user in
    let start = k.large.above u x l.live in
    let around = mapping-open m h x.mapping k.heap.owned k.heap.parts.mappings (sym there ∙ ap (mapping_of h.maps.mappings) (sym user)) in
    let a : (u % 16 == 0) ≡ true = eq-eqb _ _ (k.large.aligned u x l.live) in
    let b : nat_le 16 u ≡ true = grind (arith, nat_tests) in
    let c : page_has m ((u - 16) / PAGE_SIZE) 3 ≡ true = ap (λ t. has_cases t 3) (around.pages (u - 16) (omega arith) (omega arith)) in
    let d : is_allocated x.header.state ≡ true = ap is_allocated hd.state in
    let z : (x.header.class_id == 0) ≡ true = eq-eqb _ _ class in
    let o : (x.header.offset == 0) ≡ true = eq-eqb _ _ offset in
    let n : nat_le x.header.size_or_unused_bytes (end_of x.mapping - x.mapping.user) ≡ true = grind (arith, nat_tests) in
    cond-true _ _ _ a ∙ cond-true _ _ _ (both _ _ b c) ∙ ap (check_header h u) (read_back m h.cookie u x.header sm l.header)
    ∙ cond-true _ _ _ d ∙ cond-true _ _ _ z ∙ ap (check_mapping x.header) there ∙ cond-true _ _ _ (both _ _ o n)
