-- A header of which one byte was changed.
use Rattle.std.specs.Prelude.{◌≡◌, ◌≢◌, ℕ, ◌-◌, ◌*◌, ◌/◌, ◌%◌, ◌^◌, ◌<◌, Some, None, Ok}
use Rattle.std.specs.Int.{from_le_bytes, w64}
use Rattle.a64_bits.specs.Addresses.{plain}
use Rattle.mte_tags.specs.Memory.{Memory}
use Rattle.mte_tags.specs.Accesses.{read_bytes}
use Rattle.scudo_header.specs.Headers.{unpacked_header}
use Rattle.scudo_header.specs.declared.headers.Header.{Header}
use Rattle.scudo_heap.specs.declared.abort.HeapAbort.TheVariants.{HeaderCorrupt}
use Rattle.scudo_heap.specs.declared.chunk.Found.{Found}
use Rattle.mte_laws.specs.CarefulRuns.{State, found_at, IsQuiet}
use Rattle.mte_laws.specs.Frees.{AbortsBy}

-- The byte i of a word, counted from the lowest.
abbrev pub byte_of : ℕ → ℕ → ℕ
byte_of word i = word / 2 ^ (8 * i) % 256

-- Two words differ in just one of their eight bytes.
pub record DifferInOneByte (a b : ℕ) : Type 0 where
  pub place : ℕ
  pub below : place < 8
  pub other : byte_of b place ≢ byte_of a place
  pub same : (i : ℕ) → i < 8 → i ≢ place → byte_of b i ≡ byte_of a i

-- The word of the header that is before a user address.
abbrev pub header_word_at : Memory → ℕ → ℕ
header_word_at m user = from_le_bytes w64 (read_bytes m (user - 16) 8)

-- words: where a word has the right checksum, one that differs from it in one byte has not
-- calls: so where a pointer passes the checks, and then one byte of its header is changed, each
-- call that names it aborts
pub record ChangedHeadersAreRefused : Type 0 where
  pub words :
      (cookie pointer word changed : ℕ) (header : Header)
      → unpacked_header cookie pointer word ≡ Some header → DifferInOneByte word changed
      → unpacked_header cookie pointer changed ≡ None
  pub calls :
      (s t : State) (pointer : ℕ) (f : Found) → found_at s.world pointer ≡ Ok f → IsQuiet s t
      → DifferInOneByte (header_word_at s.world.memory (plain pointer))
      (header_word_at t.world.memory (plain pointer))
      → AbortsBy HeaderCorrupt t.world pointer
