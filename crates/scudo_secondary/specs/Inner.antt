-- For the code's own clauses, views and invariants.
-- The list of mappings in the code.
use Rattle.std.specs.Prelude.{◌≤◌, vec_capacity}
use Rattle.scudo_secondary.specs.Mappings.{SecondaryState, AreMappings, pages_of}
use Rattle.scudo_secondary.specs.declared.maps.Secondary.TheInside.{Inside}

-- The mappings that the code keeps.
abbrev pub secondary_state : Inside → SecondaryState
secondary_state f = record { limit = vec_capacity f.mappings; mappings = f.mappings.items }

-- there is space for each mapping that may come
pub record IsSecondary (f : Inside) : Type 0 where
  pub mappings : AreMappings f.mappings.items
  pub room : pages_of f.mappings.items ≤ vec_capacity f.mappings
