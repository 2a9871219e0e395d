-- A tagged memory with a snapshot.
use Rattle.std.specs.Prelude.{◌≡◌, refl}
use Rattle.std.proofs.Common.{◌∙◌}
use Rattle.std.specs.Coded.{Coded, code_by, coded×}
use Rattle.mte_tags.specs.Memory.{Memory, coded_memory}

-- The memory now, and the memory when the snapshot was made.
pub record SnapshotState : Type 0 where
  pub now : Memory
  pub saved : Memory

-- The code of a memory with a snapshot, by which proofs distinguish two.
abbrev pub coded_snapshot : Coded SnapshotState
coded_snapshot =
    code_by (Memory × Memory) (coded× coded_memory coded_memory)
    (λ s. (s.now, s.saved))
    (λ c. record { now = c.0; saved = c.1 })
    (λ _. refl)

-- The snapshot is that of before.
abbrev pub SavedStays : SnapshotState → SnapshotState → Type 0
SavedStays before after = after.saved ≡ before.saved

pub saved_same : (s : SnapshotState) → SavedStays s s
saved_same s = refl

pub saved_on : (a b c : SnapshotState) → SavedStays a b → SavedStays b c → SavedStays a c
saved_on a b c first second = second ∙ first
