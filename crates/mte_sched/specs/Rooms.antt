-- How much memory an admission takes for the host's lists.
use Rattle.std.specs.Prelude.{ℕ, ◌+◌, List, [], ◌∷◌, max, nat_lt, if◌then◌else◌}

-- The room of a list that gets one more element: where there is none left, twice as much, and that
-- of four at least.
abbrev pub room_for_one : ℕ → ℕ → ℕ
room_for_one room count = if nat_lt count room then room else count + max count 4

-- The rooms after an admission: nothing but the number of tenants that were admitted says how much
-- memory the list of tenants has, and no other list takes any.
abbrev pub rooms_after_admission : ℕ → List ℕ → List ℕ
rooms_after_admission count [] = []
rooms_after_admission count (tenants ∷ others) = room_for_one tenants count ∷ others
