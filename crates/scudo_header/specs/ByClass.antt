-- A value for each size class, as a finite map.
--     by_class f             the value f class for each class
--     value_of m none class  the value of a class; `none` where it has none
--     with_value m class x   m with the value x for a class
use Rattle.std.specs.Prelude.{ℕ, map, unwrap_or}
use Rattle.std.specs.List.{range_with_len}
use Rattle.std.specs.Ordering.{nat_cmp}
use Rattle.std.specs.FinMap as finite
use Rattle.std.specs.FinMap.{FinMap}
use Rattle.scudo_header.specs.declared.config.TheConstants.{CLASSES}

-- A value for each size class.
abbrev pub ByClass : Type 0 → Type 0
ByClass X = FinMap nat_cmp X

-- The values that a function gives the classes.
unfoldable pub by_class : {X : Type 0} → (ℕ → X) → ByClass X
by_class f = finite.from_entries (map (λ class. (class, f class)) (range_with_len 1 CLASSES))

-- The value of a class; `none` for a number that is no class.
unfoldable pub value_of : {X : Type 0} → ByClass X → X → ℕ → X
value_of m none class = unwrap_or (finite.get m class) none

-- The values with a class's value replaced.
unfoldable pub with_value : {X : Type 0} → ByClass X → ℕ → X → ByClass X
with_value m class x = finite.insert m class x
