-- An allocation with pages of its own keeps the live chunks Sound.
use Rattle.std.proofs.Common.{◌≡◌, ◌≢◌, ℕ, ◌+◌, ◌-◌, ◌*◌, ◌/◌, ◌%◌, ◌^◌, ◌<◌, ◌≤◌, true, false, Some, None, List, refl, sym, ap, subst, ◌∙◌, arith}
use Rattle.std.specs.List.{list_any}
use Rattle.mte_tags.specs.Memory.{Memory, pages_left, with_new_pages}
use Rattle.mte_tags.specs.Whole.{IsWhole}
use Rattle.scudo_header.specs.declared.headers.Origin.{Origin}
use Rattle.scudo_header.specs.declared.headers.Header.{Header}
use Rattle.scudo_secondary.specs.Mappings.{AreMappings, place_of, mapping_of}
use Rattle.scudo_secondary.specs.declared.mappings.Mapping.{Mapping}
use Rattle.common.specs.declared.limits.TheConstants.{PAGE_SIZE}
use Rattle.scudo_heap.specs.Heaps.{with_more}
use Rattle.scudo_heap.specs.Placing.{World, heap_attrs}
use Rattle.scudo_heap.specs.Chunks.{with_header}
use Rattle.scudo_heap.specs.Large.{mapping_for, large_header, large_placed}
use Rattle.scudo_heap.specs.Allocation.{need_of}
use Rattle.scudo_heap.specs.Inner.{IsAlign, IsLarge}
use Rattle.scudo_heap.specs.Served.{is_inside}
use Rattle.std.proofs.Math.Nat.{mul-mod_left}
use Rattle.scudo_heap.proofs.ClassLemmas.{divides}
use Rattle.scudo_heap.proofs.LargeLemmas.{after_map_chunk, is-large}
use Rattle.scudo_heap.proofs.MapLemmas.{IsAt, is-at, without, inside-in}
use Rattle.scudo_heap.proofs.ServedLemmas.{pages-free, places-of}
use Rattle.mte_laws.specs.LivePages.{new_large, AreLarge}
use Rattle.mte_laws.specs.CarefulRuns.{State}
use Rattle.mte_laws.specs.SoundHeaps.{Sound}
use Rattle.scudo_heap.proofs.BesideLemmas.{place-fits}
use Rattle.scudo_heap.proofs.CallSteps.{IsLeft, large_left}
use Rattle.mte_laws.proofs.Serving.{blocks-of}
use Rattle.mte_laws.proofs.BlockSteps.{IsSameTags, same-with-bytes-at, same-mapped, same-tags-then, same-tags_sound, same-tags_stale}
use Rattle.mte_laws.proofs.Larges.{IsNewMapping, check-pointer-of, large-state-after-allocation}
use Rattle.mte_laws.proofs.MadeStates.{state_after_allocation, IsMade, state-sound}

-- the user address of a mapping at a place is no other's
none-at : (ms : List Mapping) (n start u : ℕ) → AreMappings ms → IsAt ms n start → start ≤ u → u < start + PAGE_SIZE * n → mapping_of ms u ≡ None
none-at ms n start u k at l h = elim (mapping_of ms u) as (λ o. mapping_of ms u ≡ o → o ≡ None) [
  | None ↦ λ e. refl
  | Some y ↦ λ e.
      let f = check-pointer-of ms u y k e in
      let user : y.user ≡ u = f.user in
      let first = f.first in
      let last = f.last in
      let w = without ms y k (sym e ∙ ap (mapping_of ms) (sym user)) in
      let on : list_any (is_inside u) ms ≡ true = w.there u (inside-in u y first last) in
      let off : list_any (is_inside u) ms ≡ false = at.out u l h in
      absurd (let z : true ≡ false = sym on ∙ off in cc)
] refl

same-with-header : (m : Memory) (cookie user : ℕ) (header : Header) → IsWhole m → IsSameTags m (with_header m cookie user header)
unfolding with_header
same-with-header m cookie user header w = same-with-bytes-at m (user - 16) _ w

module _ (o : Origin) (s : State) (align size n start : ℕ) (k : Sound s) (al : IsAlign align) (some : 0 < size) (small : size ≤ 2 ^ 20) (few : n ≤ 4096) (need : need_of align size ≤ PAGE_SIZE * n)
    (place : place_of s.world.heap.maps.mappings n ≡ Some start) (left : n ≤ pages_left s.world.memory) where
  abbrev pub w : World
  w = s.world

  abbrev pub m : Mapping
  m = mapping_for start n align size

  pub at : IsAt w.heap.maps.mappings n start
  at = is-at w.heap.maps.mappings n start (place-fits w.heap.maps.mappings n start place)

  pub large : IsLarge m size
  large = let a = at in is-large start n align size a.aligned a.above a.below few al some small need

  abbrev pub first : Memory
  first = with_new_pages w.memory (start / PAGE_SIZE) n heap_attrs

  abbrev pub last : Memory
  last = with_header first w.heap.cookie m.user (large_header o m size)

  mapped : IsSameTags w.memory first
  mapped =
      let above = at.above in
      same-mapped w.memory (start / PAGE_SIZE) n heap_attrs k.whole (pages-free w.memory w.heap.maps n start (places-of w.memory w.heap k.heap.owned) at) left (omega arith)

  abbrev pub after : State
  after = state_after_allocation o s.live (after_map_chunk w o size m)

  step : IsLeft w after.world
  step = large_left w o m size (place-fits w.heap.maps.mappings n start place) large left

  pub new : IsNewMapping w.heap.maps.mappings m
  new =
      let l = large in
      let above = l.above in
      let below = l.below in
      record { none = none-at w.heap.maps.mappings n start m.user k.heap.parts.mappings at (omega arith) (omega arith); aligned = at.aligned }

  even : m.user % 16 ≡ 0
  even =
      let x = start + PAGE_SIZE * n - size in
      let least = al.least in
      divides (x / align * align) align (omega arith) al.multiple (mul-mod_left (x / align) align)

  larges : AreLarge after.world.heap.maps.mappings after.live.pages
  unfolding large_placed with_more
  larges =
      let l = large in
      large-state-after-allocation w.heap.maps.mappings s.live.pages (new_large o m size) k.large new l.above l.within (record { class = refl; state = refl; unused = refl; offset = refl; fits = l.unused }) even

  pub large-state : IsMade o s (after_map_chunk w o size m)
  unfolding large_placed
  large-state =
      let b = blocks-of s k in
      let same = same-tags-then w.memory first last mapped (same-with-header first w.heap.cookie m.user (large_header o m size) mapped.whole) in
      let e = step in
      record {
        sound = state-sound s after k (ap (λ t. t.mode) e.state) (e.sound k.heap) (same-tags_sound w.memory last w.heap.stacks s.live.blocks same b) larges;
        stale = λ f st on. same-tags_stale w.memory last w.heap.stacks f b.stacked same st;
        apart = λ p t f. cc;
        apart_large = λ q z f u x g.
            let h : m ≡ q = cc in
            subst (λ (t : Mapping). t.user ≢ u) h (λ i. let y : Some x.mapping ≡ None = sym (k.large.place u x g) ∙ ap (mapping_of w.heap.maps.mappings) (sym i) ∙ new.none in cc);
        fresh = λ p t f. cc;
      }
