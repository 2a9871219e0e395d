-- A call that frees or moves a chunk with pages of its own leaves no mapping there.
use Rattle.std.proofs.Common.{◌≡◌, ◌≢◌, ℕ, ◌<◌, ◌≤◌, ◌==◌, nat_le, Bool, true, false, cond, Option, Some, None, refl, sym, ap, subst, ◌∙◌}
use Rattle.std.proofs.lemmas.Bool.{cond-false}
use Rattle.std.specs.Prelude.{min}
use Rattle.std.specs.List.{list_any}
use Rattle.a64_bits.specs.Addresses.{plain}
use Rattle.mte_tags.specs.Accesses.{read_bytes}
use Rattle.scudo_header.specs.declared.headers.Origin.TheVariants.{Malloc}
use Rattle.scudo_secondary.specs.Mappings.{mapping_of, end_of}
use Rattle.scudo_header.specs.declared.config.TheConstants.{MAX_REQUEST}
use Rattle.scudo_heap.specs.declared.call.HeapCall.TheVariants.{Realloc, Free}
use Rattle.scudo_heap.specs.declared.chunk.Chunk.{Chunk}
use Rattle.scudo_heap.specs.declared.chunk.Chunk.TheVariants.{Small, Large}
use Rattle.scudo_heap.specs.declared.chunk.Found.TheVariants.{InPages}
use Rattle.scudo_heap.specs.Heaps.{with_less}
use Rattle.scudo_heap.specs.Large.{large_given_back}
use Rattle.scudo_heap.specs.Placing.{World}
use Rattle.scudo_heap.specs.Allocation.{AllocationResult, no_chunk, after_malloc}
use Rattle.scudo_heap.specs.Checks.{size_found}
use Rattle.scudo_heap.specs.Freeing.{without_chunk as freed_world}
use Rattle.scudo_heap.specs.Realloc as heap
use Rattle.scudo_heap.specs.Realloc.{user_of_chunk, after_copy, with_copied_bytes, after_move, with_new_size, realloc_cases, after_realloc}
use Rattle.scudo_heap.specs.Calls.{after_call}
use Rattle.scudo_heap.specs.Served.{is_inside}
use Rattle.scudo_heap.proofs.MapLemmas.{without, inside-in}
use Rattle.mte_laws.specs.LivePages.{PageChunk, large_at, new_large}
use Rattle.mte_laws.specs.CarefulRuns.{State, Live, found_at, with_made_chunk, without_freed_chunk, live_move_cases, live_after_resize, live_after_realloc, live_realloc_cases, live_realloc, state_after_call, IsLiveLarge}
use Rattle.mte_laws.specs.SoundHeaps.{Sound}
use Rattle.mte_laws.proofs.Larges.{check-pointer-of}
use Rattle.mte_laws.proofs.FoundStates.{large-named}
use Rattle.mte_laws.proofs.MadeStates.{IsMade}
use Rattle.mte_laws.proofs.MadeCalls.{malloc-state-after-allocation}
use Rattle.mte_laws.proofs.FreeStates.{with-bytes-at-kept}
use Rattle.mte_laws.proofs.ReallocStates.{large-with}
use Rattle.mte_laws.proofs.Freeings.{not-null, free-world, realloc-world}

abbrev IsGone : World → ℕ → Type 0
IsGone w a = list_any (is_inside a) w.heap.maps.mappings ≡ false

module _ (x : PageChunk) (a : ℕ) (lo : x.mapping.start ≤ a) (hi : a < end_of x.mapping) where
  -- where the chunk is live no more, no mapping holds the address
  abbrev IsGoneIf : World → Live → Type 0
  IsGoneIf w l = large_at l.pages x.mapping.user ≡ None → IsGone w a

  live-still : (w : World) (l : Live) → large_at l.pages x.mapping.user ≡ Some x → IsGoneIf w l
  live-still w l e = λ n. let z : Some x ≡ None = sym e ∙ n in cc

  freed-gone : (t : State) → Sound t → large_at t.live.pages x.mapping.user ≡ Some x → IsGone (freed_world t.world (InPages x.mapping x.header)) a
  unfolding freed_world large_given_back with_less
  freed-gone t k e =
      let there : Some x.mapping ≡ mapping_of t.world.heap.maps.mappings x.mapping.user = sym (k.large.place x.mapping.user x e) in
      (without t.world.heap.maps.mappings x.mapping k.heap.parts.mappings there).in_it a (inside-in a x.mapping lo hi)

  branch-both : (b : Bool) (u v : AllocationResult) (l m : Live) → (b ≡ true → IsGoneIf u.world l) → (b ≡ false → IsGoneIf v.world m) → IsGoneIf (cond b u v).world (cond b l m)
  branch-both true u v l m f g = f refl
  branch-both false u v l m f g = g refl

  still-pages : (s : State) (r : AllocationResult) (c : Chunk) → IsMade Malloc s r → r.chunk ≡ Some c → large_at s.live.pages x.mapping.user ≡ Some x → large_at (with_made_chunk Malloc s.live (Some c)).pages x.mapping.user ≡ Some x
  still-pages s r (Small p t) m f g = g
  still-pages s r (Large n z) m f g = large-with s.live.pages (new_large Malloc n z) x.mapping.user (m.apart_large n z f x.mapping.user x g) ∙ g

  live-move-cases-gone : (s : State) (size : ℕ) (r : AllocationResult) (c : Option Chunk) → Sound s → large_at s.live.pages x.mapping.user ≡ Some x → IsMade Malloc s r → r.chunk ≡ c
      → IsGoneIf (heap.move_to_cases s.world (InPages x.mapping x.header) size r.world c).world (live_move_cases s.live (InPages x.mapping x.header) c)
  unfolding after_copy
  live-move-cases-gone s size r None k e m f = live-still s.world s.live e
  live-move-cases-gone s size r (Some c) k e m f = λ n.
      let t : State = record { world = r.world; live = with_made_chunk Malloc s.live (Some c) } in
      let sound : Sound t = subst (λ o. Sound (record { world = r.world; live = with_made_chunk Malloc s.live o })) f m.sound in
      let bytes = read_bytes t.world.memory x.mapping.user (min (size_found (InPages x.mapping x.header)) size) in
      let h = with-bytes-at-kept t (user_of_chunk c) bytes sound in
      let u : State = record t { world = with_copied_bytes r.world (InPages x.mapping x.header) c size } in
      freed-gone u h.sound (still-pages s r c m f e)

  after-move-gone : (s : State) (size : ℕ) → Sound s → large_at s.live.pages x.mapping.user ≡ Some x → IsGoneIf (after_move s.world (InPages x.mapping x.header) size).world (live_move_cases s.live (InPages x.mapping x.header) (after_malloc s.world size).chunk)
  unfolding after_move
  after-move-gone s size k e = live-move-cases-gone s size (after_malloc s.world size) (after_malloc s.world size).chunk k e (malloc-state-after-allocation s size k) refl

  new_size-gone : (s : State) (size : ℕ) → Sound s → large_at s.live.pages x.mapping.user ≡ Some x → IsGoneIf (with_new_size s.world (InPages x.mapping x.header) size).world (live_after_resize s.world s.live (InPages x.mapping x.header) size)
  unfolding with_new_size
  new_size-gone s size k e = after-move-gone s size k e

  realloc-cases-gone : (s : State) (size : ℕ) → Sound s → large_at s.live.pages x.mapping.user ≡ Some x → IsGoneIf (realloc_cases s.world (InPages x.mapping x.header) size).world (live_after_realloc s.world s.live (InPages x.mapping x.header) size)
  unfolding realloc_cases
  realloc-cases-gone s size k e =
      branch-both (size == 0) (record { world = freed_world s.world (InPages x.mapping x.header); chunk = None })
      (cond (nat_le size MAX_REQUEST) (with_new_size s.world (InPages x.mapping x.header) size) (no_chunk s.world))
      (without_freed_chunk s.live (InPages x.mapping x.header)) (cond (nat_le size MAX_REQUEST) (live_after_resize s.world s.live (InPages x.mapping x.header) size) s.live)
      (λ t. λ n. freed-gone s k e)
      (λ t. branch-both (nat_le size MAX_REQUEST) (with_new_size s.world (InPages x.mapping x.header) size) (no_chunk s.world) (live_after_resize s.world s.live (InPages x.mapping x.header) size) s.live
      (λ v. new_size-gone s size k e) (λ v. live-still s.world s.live e))

-- ---- the calls

module _ (s : State) (pointer : ℕ) (x : PageChunk) (a : ℕ) (k : Sound s) (some : pointer ≢ 0) (l : IsLiveLarge s (plain pointer) x) (lo : x.mapping.start ≤ a) (hi : a < end_of x.mapping) where
  user : x.mapping.user ≡ plain pointer
  user = (check-pointer-of s.world.heap.maps.mappings (plain pointer) x.mapping k.heap.parts.mappings (k.large.place (plain pointer) x l.live)).user

  live : large_at s.live.pages x.mapping.user ≡ Some x
  live = ap (large_at s.live.pages) user ∙ l.live

  pub free-gone : IsGone (state_after_call (Free pointer) s).world a
  unfolding after_call state_after_call
  free-gone = subst (λ w. IsGone w a) (free-world s pointer (InPages x.mapping x.header) some (large-named s pointer x k l)) (freed-gone x a lo hi s k live)

  pub realloc-gone : (size : ℕ) → large_at (state_after_call (Realloc pointer size) s).live.pages (plain pointer) ≡ None → IsGone (state_after_call (Realloc pointer size) s).world a
  unfolding after_call state_after_call
  realloc-gone size n =
      let f = InPages x.mapping x.header in
      let e = large-named s pointer x k l in
      let w : (realloc_cases s.world f size).world ≡ (after_realloc s.world pointer size).world = realloc-world s pointer size f some e in
      let v : live_realloc s pointer size ≡ live_after_realloc s.world s.live f size =
      cond-false (pointer == 0) (with_made_chunk Malloc s.live (after_malloc s.world size).chunk) (live_realloc_cases s.world s.live size (found_at s.world pointer)) (not-null pointer some) ∙ ap (live_realloc_cases s.world s.live size) e in
      let none : large_at (live_after_realloc s.world s.live f size).pages x.mapping.user ≡ None = ap (λ (t : Live). large_at t.pages x.mapping.user) (sym v) ∙ ap (large_at (live_realloc s pointer size).pages) user ∙ n in
      subst (λ (t : World). IsGone t a) w (realloc-cases-gone x a lo hi s size k live none)
