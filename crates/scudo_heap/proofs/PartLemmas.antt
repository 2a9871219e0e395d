-- What the code's calls leave of a heap's parts and of the condition, by their equations.
use Rattle.std.proofs.Common.{◌≡◌, ℕ, Option, Ok, sym, ap, subst, ◌∙◌}
use Rattle.mte_tags.specs.Memory.{Memory}
use Rattle.mte_tags.specs.declared.generator.Rgsr.{Rgsr}
use Rattle.scudo_header.specs.declared.headers.Origin.{Origin}
use Rattle.scudo_heap.specs.declared.chunk.Chunk.{Chunk}
use Rattle.scudo_heap.specs.declared.chunk.Found.{Found}
use Rattle.scudo_heap.specs.Heaps.{HeapState}
use Rattle.scudo_heap.specs.Placing.{World, world_of}
use Rattle.scudo_heap.specs.Allocation.{AllocationResult, allocation_of, after_allocate}
use Rattle.scudo_heap.specs.Checks.{check_pointer}
use Rattle.scudo_heap.specs.Freeing.{without_chunk}
use Rattle.scudo_heap.specs.Realloc.{realloc_cases}
use Rattle.scudo_heap.specs.Served.{HeapOwnsItsPages}
use Rattle.scudo_heap.specs.Inner.{AreHeapParts, IsAlign}
use Rattle.scudo_heap.specs.Sound.{IsSoundWorld}
use Rattle.scudo_heap.proofs.FoundLemmas.{check-pointer-is}
use Rattle.scudo_heap.proofs.CallSteps.{after-allocate-made, without_sound, refound_left}

-- a heap whose parts the code has, with its view
sound-of : (m : Memory) (h k : HeapState) (r : Rgsr) → h ≡ k → AreHeapParts h → HeapOwnsItsPages m k → IsSoundWorld (world_of m h r)
sound-of m h k r e p v = record { owned = subst (HeapOwnsItsPages m) (sym e) v; room = p.room; parts = p.sound }

pub parts-of : (w : World) → IsSoundWorld w → AreHeapParts w.heap
parts-of w v = record { room = v.room; sound = v.parts }

-- a chunk was made
pub sound-made : (w x : World) (o : Origin) (a z : ℕ) (c : Option Chunk) → IsSoundWorld w → IsAlign a → allocation_of x c ≡ after_allocate w o a z → IsSoundWorld x
sound-made w x o a z c v al e = subst IsSoundWorld (sym (ap (λ (d : AllocationResult). d.world) e)) ((after-allocate-made w o a z v.owned v.parts.stacks al).left.sound v)

pub sound-after-allocate : (m : Memory) (h k : HeapState) (r : Rgsr) (x : World) (o : Origin) (a z : ℕ) (c : Option Chunk) → h ≡ k → AreHeapParts h → HeapOwnsItsPages m k → IsAlign a → allocation_of x c ≡ after_allocate (world_of m h r) o a z → IsSoundWorld x
sound-after-allocate m h k r x o a z c view p v al e = sound-made (world_of m h r) x o a z c (sound-of m h k r view p v) al e

-- the same, of a call that returns the chunk's address alone
pub sound-after-address : (m : Memory) (h k : HeapState) (r : Rgsr) (x : World) (o : Origin) (a z : ℕ) → h ≡ k → AreHeapParts h → HeapOwnsItsPages m k → IsAlign a → x ≡ (after_allocate (world_of m h r) o a z).world → IsSoundWorld x
sound-after-address m h k r x o a z view p v al e =
    sound-after-allocate m h k r x o a z (after_allocate (world_of m h r) o a z).chunk view p v al (ap (λ t. allocation_of t (after_allocate (world_of m h r) o a z).chunk) e)

-- a chunk that the checks found was freed, or got another size
pub sound-after-free : (m n : Memory) (h k : HeapState) (r : Rgsr) (x : World) (f : Found) (user : ℕ) → h ≡ k → AreHeapParts h → HeapOwnsItsPages m k → n ≡ m → Ok f ≡ check_pointer m h user → x ≡ without_chunk (world_of n h r) f → IsSoundWorld x
sound-after-free m n h k r x f user view p v same found e =
    let s = sound-of m h k r view p v in
    subst IsSoundWorld (sym (e ∙ ap (λ t. without_chunk (world_of t h r) f) same)) (without_sound (world_of m h r) f (check-pointer-is m h user f (sym found)) s)

pub sound-after-realloc : (m n : Memory) (h k : HeapState) (r : Rgsr) (x : World) (f : Found) (user z : ℕ) (c : Option Chunk) → h ≡ k → AreHeapParts h → HeapOwnsItsPages m k → n ≡ m → Ok f ≡ check_pointer m h user → allocation_of x c ≡ realloc_cases (world_of n h r) f z → IsSoundWorld x
sound-after-realloc m n h k r x f user z c view p v same found e =
    let s = sound-of m h k r view p v in
    let step = refound_left (world_of m h r) f z s.owned s.parts (check-pointer-is m h user f (sym found)) in
    subst IsSoundWorld (sym (ap (λ (d : AllocationResult). d.world) (e ∙ ap (λ t. realloc_cases (world_of t h r) f z) same))) (step.sound s)
