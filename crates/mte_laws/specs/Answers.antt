-- A call answers the pointer to its chunk, which may be used through it.
--     AnswersPointerTo s c x    the call c answers the pointer to the chunk x
--     asked_bytes c             how many bytes a call asks for
use Rattle.std.specs.Prelude.{◌≡◌, ◌≢◌, ℕ, ◌+◌, ◌*◌, max, Some, Ok}
use Rattle.a64_bits.specs.Addresses.{plain, address_tag}
use Rattle.mte_tags.specs.Memory.{Memory}
use Rattle.scudo_secondary.specs.Mappings as secondary
use Rattle.scudo_heap.specs.declared.call.HeapCall.{HeapCall}
use Rattle.scudo_heap.specs.declared.call.HeapCall.TheVariants.{Malloc, Free, Calloc, Realloc}
use Rattle.scudo_heap.specs.declared.call.HeapCall.TheVariants.{Memalign, UsableSize}
use Rattle.scudo_heap.specs.declared.chunk.Chunk.{Chunk}
use Rattle.scudo_heap.specs.declared.chunk.Chunk.TheVariants.{Small, Large}
use Rattle.scudo_heap.specs.Chunks.{end_of}
use Rattle.scudo_heap.specs.Allocation.{after_malloc, after_calloc, after_memalign}
use Rattle.scudo_heap.specs.Realloc.{user_of_chunk, after_realloc}
use Rattle.scudo_heap.specs.Calls.{after_call}
use Rattle.mte_laws.specs.CarefulRuns.{State, IsCareful}
use Rattle.mte_laws.specs.SoundHeaps.{Sound}
use Rattle.mte_laws.specs.Uses.{IsUsable}

-- The size of a chunk.
abbrev pub size_of_chunk : Chunk → ℕ
size_of_chunk (Small p tag) = p.size
size_of_chunk (Large m size) = size

-- The tag of its granules: 0 where it has pages of its own.
abbrev pub tag_of_chunk : Chunk → ℕ
tag_of_chunk (Small p tag) = tag
tag_of_chunk (Large m size) = 0

-- The address after its granules or, where it has pages of its own, after these.
abbrev pub end_of_chunk : Chunk → ℕ
end_of_chunk (Small p tag) = end_of p
end_of_chunk (Large m size) = secondary.end_of m

-- How many bytes a call asks for.
abbrev pub asked_bytes : HeapCall → ℕ
asked_bytes (Malloc size) = size
asked_bytes (Free pointer) = 0
asked_bytes (Calloc count size) = count * size
asked_bytes (Realloc pointer size) = size
asked_bytes (Memalign align size) = size
asked_bytes (UsableSize pointer) = 0

-- size: the chunk has the size that was asked for, or 1 for 0
-- answer, address, tag: the call answers the chunk's address, with the tag of its granules
-- usable: no access through this pointer faults up to the chunk's end
pub record AnswersPointerTo (s : State) (c : HeapCall) (x : Chunk) : Type 0 where
  pub size : size_of_chunk x ≡ max (asked_bytes c) 1
  pub pointer : ℕ
  pub answer : (after_call s.world c).answer ≡ Ok pointer
  pub address : plain pointer ≡ user_of_chunk x
  pub tag : address_tag pointer ≡ tag_of_chunk x
  pub usable :
      IsUsable (after_call s.world c).world.memory (address_tag pointer) (plain pointer)
      (end_of_chunk x)

-- A call that makes a chunk, or a careful one that reallocates it, answers the pointer to it.
pub record AnswersArePointers : Type 0 where
  pub malloc :
      (s : State) (size : ℕ) (x : Chunk) → Sound s
      → (after_malloc s.world size).chunk ≡ Some x → AnswersPointerTo s (Malloc size) x
  pub calloc :
      (s : State) (count size : ℕ) (x : Chunk) → Sound s
      → (after_calloc s.world count size).chunk ≡ Some x
      → AnswersPointerTo s (Calloc count size) x
  pub memalign :
      (s : State) (align size : ℕ) (x : Chunk) → Sound s
      → (after_memalign s.world align size).chunk ≡ Some x
      → AnswersPointerTo s (Memalign align size) x
  pub realloc :
      (s : State) (pointer size : ℕ) (x : Chunk) → Sound s → IsCareful s (Realloc pointer size)
      → (after_realloc s.world pointer size).result ≡ Ok (Some x)
      → AnswersPointerTo s (Realloc pointer size) x

-- The n bytes from a pointer on may be used through it.
abbrev pub HasUsableBytes : Memory → ℕ → ℕ → Type 0
HasUsableBytes m pointer n =
    IsUsable m (address_tag pointer) (plain pointer) (plain pointer + n)

-- So the bytes that a careful call asks for may be used through what it answers, where this is not
-- the null pointer.
abbrev pub AskedBytesMayBeUsed : Type 0
AskedBytesMayBeUsed =
    (s : State) (c : HeapCall) (pointer : ℕ) → Sound s → IsCareful s c
    → (after_call s.world c).answer ≡ Ok pointer → pointer ≢ 0
    → HasUsableBytes (after_call s.world c).world.memory pointer (asked_bytes c)
