use Rattle.std.proofs.Common.{◌≡◌, ℕ, ◌<◌, ◌+◌, ◌*◌, ◌%◌}
use Rattle.std.specs.Prelude.{slice_index, slice_range}
use Rattle.std.specs.Int.{from_le_bytes, w32}
use Rattle.mte_tags.proofs.page.words_in_page.Given as goal

abbrev pub invariant-loop-i : goal.invariant-loop-i
invariant-loop-i g l =
    (k : ℕ) → k < l.i
    → slice_index l.words k
    ≡ from_le_bytes w32 (slice_range l.bytes (l.at % 4096 + 4 * k) (l.at % 4096 + 4 * k + 4))
