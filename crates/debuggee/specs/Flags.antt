-- Words that Linux and GDB have of a core's state.
use Rattle.std.specs.Prelude.{ℕ, ◌+◌, ◌^◌, Bool, if◌then◌else◌}
use Rattle.a64_bits.specs.declared.arithmetic.Flags.{Flags}
use Rattle.mte_tags.specs.declared.state.TagMode.{TagMode}
use Rattle.mte_tags.specs.declared.state.TagMode.TheVariants.{Sync, Async}

-- A bit at its place in a word.
abbrev pub bit_at : ℕ → Bool → ℕ
bit_at place bit = if bit then 2 ^ place else 0

-- PSTATE.N, Z, C and V (Arm ARM DDI 0487, C5.2.10: NZCV, bits 31 to 28).
abbrev pub word_of_flags : Flags → ℕ
word_of_flags f = bit_at 31 f.n + bit_at 30 f.z + bit_at 29 f.c + bit_at 28 f.v

-- PR_GET_TAGGED_ADDR_CTRL: 1 for tagged addresses, 2 and 4 for tags that are compared at once and
-- later, and the tags 1 to 15 from bit 3 on.
abbrev pub word_of_mode : TagMode → ℕ
word_of_mode Sync = 524275
word_of_mode Async = 524277
