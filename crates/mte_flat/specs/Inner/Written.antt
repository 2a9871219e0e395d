-- For the code's own clauses, views and invariants.
-- Which slots may be others than those of before.
use Rattle.std.specs.Prelude.{◌≡◌, ℕ, ◌<◌, ◌≤◌, List, length, slice_index_or, false}
use Rattle.std.proofs.Common.{◌∙◌, refl, sym, ap}
use Rattle.mte_flat.specs.declared.slot.Slot.{Slot}

-- Each slot that is not marked as written is that of before.
abbrev pub KeepsUnwritten : List Slot → List Slot → Type 0
KeepsUnwritten before after =
    (i : ℕ) (d : Slot) → i < length after → (slice_index_or after i d).written ≡ false
    → (i < length before) × (slice_index_or after i d ≡ slice_index_or before i d)

-- There is space for slots.
abbrev pub FitIn : ℕ → List Slot → Type 0
FitIn room slots = length slots ≤ room

-- A slot that is not marked.
abbrev pub without_mark : Slot → Slot
without_mark s = record s { written = false }

-- ---- such slots go together

pub unwritten_same : (ss : List Slot) → KeepsUnwritten ss ss
unwritten_same ss = λ i d l w. (l, refl)

pub unwritten_on :
    (a b c : List Slot) → KeepsUnwritten a b → KeepsUnwritten b c → KeepsUnwritten a c
unwritten_on a b c first second = λ i d l w.
    let s = second i d l w in
    let f = first i d s.0 (ap (λ (t : Slot). t.written) (sym s.1) ∙ w) in
    (f.0, s.1 ∙ f.1)
