-- The size classes and their block sizes (Scudo, size_class_map.h: the fixed map with MinSizeLog 5,
-- MidSizeLog 8 and S 2).
use Rattle.std.specs.Prelude.{ℕ, ◌+◌, ◌-◌, ◌*◌, ◌/◌, ◌%◌, ◌^◌, ◌≤◌, ◌<◌, nat_le, Option}
use Rattle.std.specs.Prelude.{if◌then◌else◌}
use Rattle.std.specs.List.{find, range_with_len}
use Rattle.scudo_header.specs.declared.config.TheConstants.{CLASSES}

-- A size class by its number.
pub record IsClass (class : ℕ) : Type 0 where
  pub low : 0 < class
  pub high : class ≤ CLASSES

-- The power of two at or below the size of the k-th class above the middle one, class 8.
abbrev pub power_below : ℕ → ℕ
power_below k = 256 * 2 ^ (k / 4)

-- The sizes go up by 32 to the middle class, and then by quarters of the power of two below them.
unfoldable pub size_of : ℕ → ℕ
size_of class =
    if nat_le class 8
    then 32 * class
    else power_below (class - 8) + power_below (class - 8) / 4 * ((class - 8) % 4)

-- The first of the classes 1, 2, .. whose blocks hold a need.
unfoldable pub class_for : ℕ → Option ℕ
class_for need = find (λ class. nat_le need (size_of class)) (range_with_len 1 CLASSES)

-- A class whose blocks hold the need, where those of no lower class do.
pub record IsLeastClass (class need : ℕ) : Type 0 where
  pub low : 0 < class
  pub high : class ≤ CLASSES
  pub holds : need ≤ size_of class
  pub least : (lower : ℕ) → 0 < lower → lower < class → size_of lower < need
