-- The parts of a 64-bit address, whose top byte is no part of the place that it names (Arm ARM
-- DDI 0487, "Address tagging" and "The Memory Tagging Extension").
use Rattle.std.specs.Prelude.{ℕ, ◌/◌, ◌%◌, ◌^◌}

-- The plain address: the low 56 bits.
abbrev pub plain : ℕ → ℕ
plain a = a % 2 ^ 56

-- The address tag: bits 59 to 56.
abbrev pub address_tag : ℕ → ℕ
address_tag a = a / 2 ^ 56 % 16
