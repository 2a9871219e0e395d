-- Bytes that a free and a reallocation in place clear.
use Rattle.std.specs.Prelude.{◌≡◌, ℕ, ◌<◌, ◌≤◌}
use Rattle.a64_bits.specs.Addresses.{plain}
use Rattle.mte_tags.specs.Memory.{byte_at}
use Rattle.scudo_header.specs.declared.config.TheConstants.{MAX_REQUEST}
use Rattle.scudo_heap.specs.declared.call.HeapCall.TheVariants.{Realloc}
use Rattle.scudo_heap.specs.Chunks.{end_of, block_end, with_size}
use Rattle.mte_laws.specs.LiveChunks.{BlockChunk}
use Rattle.mte_laws.specs.CarefulRuns.{State, state_after_call, IsLiveBlock}
use Rattle.mte_laws.specs.SoundHeaps.{Sound}
use Rattle.mte_laws.specs.Discipline.{Deallocation}

-- The bytes of a chunk of a size class are zero after its free, by `free` or `realloc`.
abbrev pub FreedChunksAreZero : Type 0
FreedChunksAreZero =
    (a : State) (d : Deallocation a) (addr : ℕ) → Sound a
    → d.chunk.place.user ≤ addr → addr < end_of d.chunk.place
    → byte_at (state_after_call d.call a).world.memory addr ≡ 0

-- The granules that a reallocation adds to a chunk which stays in its block are zero.
abbrev pub GrownGranulesAreZero : Type 0
GrownGranulesAreZero =
    (s : State) (pointer size addr : ℕ) (x : BlockChunk) → Sound s
    → IsLiveBlock s (plain pointer) x → 0 < size → size ≤ MAX_REQUEST
    → end_of (with_size x.place size) ≤ block_end x.place
    → end_of x.place ≤ addr → addr < end_of (with_size x.place size)
    → byte_at (state_after_call (Realloc pointer size) s).world.memory addr ≡ 0
