-- A second free of a chunk with pages of its own.
use Rattle.std.proofs.Common.{◌≡◌, ◌≢◌, ℕ, ◌+◌, ◌-◌, ◌%◌, ◌<◌, ◌≤◌, ◌&&◌, nat_le, Bool, true, false, Err, refl, ap, ◌∙◌, inr, eq-eqb, arith}
use Rattle.std.proofs.lemmas.Bool.{cond-true, cond-false}
use Rattle.std.specs.List.{list_any}
use Rattle.a64_bits.specs.Addresses.{plain}
use Rattle.common.specs.declared.ranges.TheConstants.{SECONDARY_START, SECONDARY_END}
use Rattle.mte_tags.specs.Memory.{page_has, has_cases}
use Rattle.scudo_heap.specs.declared.abort.HeapAbort.TheVariants.{Unmapped}
use Rattle.scudo_heap.specs.declared.call.HeapCall.TheVariants.{Free}
use Rattle.scudo_heap.specs.Served.{heap_page, is_inside}
use Rattle.scudo_heap.specs.Checks.{is_mapped, check_pointer}
use Rattle.mte_laws.specs.CarefulRuns.{State, found_at, state_after_call}
use Rattle.mte_laws.specs.SoundHeaps.{Sound}
use Rattle.mte_laws.specs.Frees.{AbortsBy}
use Rattle.mte_laws.specs.LargeChunks.{LargeDoubleFreesAbort}
use Rattle.mte_laws.proofs.Chunks.{is-found}
use Rattle.mte_laws.proofs.Larges.{check-pointer-of}
use Rattle.mte_laws.proofs.Disciplines.{freed-pages}
use Rattle.mte_laws.proofs.Runs.{call-kept}
use Rattle.mte_laws.proofs.Frees.{aborted-by}
use Rattle.scudo_heap.proofs.MapLemmas.{without}

and-no : (b : Bool) → (b && false) ≡ false
and-no true = refl
and-no false = refl

unmapped-found : (s : State) (pointer : ℕ) → Sound s → plain pointer % 16 ≡ 0 → SECONDARY_START + 16 ≤ plain pointer → plain pointer < SECONDARY_END + 16
    → list_any (is_inside (plain pointer - 16)) s.world.heap.maps.mappings ≡ false → found_at s.world pointer ≡ Err Unmapped
unfolding check_pointer page_has
unmapped-found s pointer k al low high gone =
    let u = plain pointer in
    let none = k.heap.owned.mappings (u - 16) (omega arith) (omega arith) ∙ ap heap_page gone in
    let no : is_mapped s.world.memory u ≡ false = ap (λ b. nat_le 16 u && b) (ap (λ t. has_cases t 3) none) ∙ and-no (nat_le 16 u) in
    cond-true _ _ _ (eq-eqb _ _ al) ∙ cond-false _ _ _ no

later-aborts : (s : State) (pointer : ℕ) → Sound s → plain pointer % 16 ≡ 0 → SECONDARY_START + 16 ≤ plain pointer → plain pointer < SECONDARY_END + 16
    → list_any (is_inside (plain pointer - 16)) s.world.heap.maps.mappings ≡ false → AbortsBy Unmapped s.world pointer
later-aborts s pointer k al low high gone =
    let n : pointer ≢ 0 = λ z. omega arith in
    aborted-by Unmapped s.world pointer n (unmapped-found s pointer k al low high gone)

pub large-frees : LargeDoubleFreesAbort
large-frees = record {
  later = later-aborts;
  direct = λ s owner pointer x k l same.
      let ms = s.world.heap.maps.mappings in
      let f = check-pointer-of ms (plain owner) x.mapping k.heap.parts.mappings (k.large.place (plain owner) x l.live) in
      let w = without ms x.mapping k.heap.parts.mappings (is-found s (plain owner) (inr x) k l.live) in
      let above = f.above in
      let end = f.last in
      let last = w.last in
      let start = k.large.above (plain owner) x l.live in
      let al : plain pointer % 16 ≡ 0 = ap (λ u. u % 16) same ∙ k.large.aligned (plain owner) x l.live in
      let gone = freed-pages.freed s owner (plain pointer - 16) x k l (omega arith) (omega arith) in
      later-aborts (state_after_call (Free owner) s) pointer (call-kept s (Free owner) k (λ n g h. inr (x, l))).sound al (omega arith) (omega arith) gone;
}
