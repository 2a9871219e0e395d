-- A machine that is brought back to a snapshot.
use Rattle.std.specs.Prelude.{ℕ, List}
use Rattle.mte_tenant.specs.Machines.{Machine}

-- A machine that may read other bytes.
abbrev pub with_input : Machine → List ℕ → Machine
with_input m bytes = record m { parts = record m.parts { input = bytes } }
