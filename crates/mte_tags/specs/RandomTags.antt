-- Random tags: the bits that the generator's seed gives, and the tag that is drawn with them. Arm
-- ARM DDI 0487, AArch64.NextRandomTagBit, AArch64.RandomTag and RGSR_EL1, given by one sequence of
-- bits.
use Rattle.std.specs.Prelude.{ℕ, zero, suc, ◌+◌, ◌*◌, ◌/◌, ◌%◌, ◌^◌, List, [], ◌∷◌, ◌++◌, map}
use Rattle.std.specs.Prelude.{slice_index}
use Rattle.std.specs.List.{range_with_len}
use Rattle.mte_tags.specs.TagChoice.{chosen_tag}
use Rattle.mte_tags.specs.declared.generator.Rgsr.{Rgsr}

-- the bit that follows the first 16 + n
abbrev pub next_bit : List ℕ → ℕ → ℕ
next_bit bits n =
    (slice_index bits n + slice_index bits (n + 2)
    + slice_index bits (n + 3) + slice_index bits (n + 5))
    % 2

-- the first 16 + n bits: those of the seed, lowest first, and each further one the sum modulo 2 of
-- those that stand 16, 14, 13 and 11 places before it
abbrev pub bits_before : ℕ → ℕ → List ℕ
bits_before seed zero = map (λ i. seed / 2 ^ i % 2) (range_with_len 0 16)
bits_before seed (suc n) = bits_before seed n ++ next_bit (bits_before seed n) n ∷ []

-- the bit i of the sequence
unfoldable pub random_bit : ℕ → ℕ → ℕ
random_bit seed i = slice_index (bits_before seed i) i

-- the number of bits, the lowest first
abbrev pub number_of : List ℕ → ℕ
number_of [] = 0
number_of (b ∷ bits) = b + 2 * number_of bits

-- the number of the n bits from bit i on
unfoldable pub random_number : ℕ → ℕ → ℕ → ℕ
random_number seed i n = number_of (map (random_bit seed) (range_with_len i n))

-- the offset of the draw d, counted from 0
abbrev pub offset_of : ℕ → ℕ → ℕ
offset_of seed d = random_number seed (16 + 4 * d) 4

-- the seed after d draws
abbrev pub seed_after : ℕ → ℕ → ℕ
seed_after seed d = random_number seed (4 * d) 16

-- A tag that was drawn, and the generator after it.
pub record Drawn : Type 0 where
  pub tag : ℕ
  pub rgsr : Rgsr

-- The tag that a draw gives, by the offset of the seed (RandomTag).
abbrev pub drawn_tag : Rgsr → ℕ → ℕ
drawn_tag r exclude = chosen_tag r.tag (offset_of r.seed 0) exclude

-- one draw: the tag that is chosen from the last one becomes the last one
unfoldable pub after_draw : Rgsr → ℕ → Drawn
after_draw r exclude =
    record {
      tag = drawn_tag r exclude;
      rgsr = record { tag = drawn_tag r exclude; seed = seed_after r.seed 1 };
    }
