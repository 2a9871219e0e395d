-- Translations at places of a row, side by side, the oldest first.
use Rattle.std.specs.Prelude.{◌≡◌, ℕ, ◌+◌, ◌-◌, ◌<◌, ◌≤◌, true, List, length, min, slice_index_or}
use Rattle.mte_translate.specs.Translations.{is_for}
use Rattle.mte_translate.specs.declared.translation.Translation.{Translation}

-- the oldest stands at the place first
pub record Window : Type 0 where
  pub first : ℕ
  pub items : List Translation

-- a translation stands at the place
pub record IsAt (w : Window) (place : ℕ) : Type 0 where
  pub from : w.first ≤ place
  pub within : place < w.first + length w.items

-- the place comes before the end of those of the row that are in use
pub record IsBefore (place end : ℕ) : Type 0 where
  pub within : place < end
  pub most : end ≤ 128

-- the translation of the page stands at the place
pub record IsPlaceOf (asid page : ℕ) (w : Window) (place : ℕ) : Type 0 where
  pub from : w.first ≤ place
  pub within : place < w.first + length w.items
  pub is : (d : Translation) → is_for asid page (slice_index_or w.items (place - w.first) d) ≡ true

-- Once the translation at a place goes, and all younger ones move down by one place: what a head
-- was and what it becomes. The next older translation of the hash stands before end.
pub record IsHeadWithout (place end old new : ℕ) : Type 0 where
  pub above : place + 1 < old → new ≡ old - 1
  pub here : old ≡ place + 1 → new ≡ end
  pub below : old ≤ place → new ≡ old

-- The same of the gap of a younger translation: `between` others stand between it and the one that
-- goes, whose own gap was older_gap.
pub record IsGapWithout (between older_gap old new : ℕ) : Type 0 where
  pub past : between < old → new ≡ old - 1
  pub here : old ≡ between → new ≡ min (old + older_gap) 255
  pub before : old < between → new ≡ old
