-- A translation lookaside buffer (Arm ARM DDI 0487, D8.16): a list of translations, the oldest
-- first. A translation has an ASID, a page, a frame and attributes, and stands for its ASID and
-- page.
--     lookup asid page ts    frame and attributes of the translation that stands for them
--     without asid page ts   all that stand for others, in their order
--     without_asid asid ts   all of other ASIDs, in their order
--     with_translation t ts  t last, after the newest 63 of the others
--     IsOneEach ts           for each ASID and page at most one stands
use Rattle.std.specs.Prelude.{ℕ, ◌-◌, ◌≤◌, ◌==◌, Bool, ◌&&◌, not, List, [], ◌∷◌, ◌++◌}
use Rattle.std.specs.Prelude.{length, drop, filter, find, Option, option_map}
use Rattle.mte_tags.specs.declared.attrs.Attrs.{Attrs}
use Rattle.mte_translate.specs.declared.translation.Translation.{Translation}

-- Whether a translation is for a page of an ASID.
abbrev pub is_for : ℕ → ℕ → Translation → Bool
is_for asid page t = (t.asid == asid) && (t.page == page)

-- The frame and the attributes of the translation of an ASID and a page, if there is one.
abbrev pub lookup : ℕ → ℕ → List Translation → Option (ℕ × Attrs)
lookup asid page ts = option_map (λ t. (t.frame, t.attrs)) (find (is_for asid page) ts)

-- The list without the translation of an ASID and a page.
abbrev pub without : ℕ → ℕ → List Translation → List Translation
without asid page ts = filter (λ t. not (is_for asid page t)) ts

-- The list without the translations of an ASID.
abbrev pub without_asid : ℕ → List Translation → List Translation
without_asid asid ts = filter (λ t. not (t.asid == asid)) ts

-- The last n of a list.
abbrev pub newest : ℕ → List Translation → List Translation
newest n ts = drop (length ts - n) ts

-- The newest 63 of the others, and the new translation after them.
abbrev pub with_translation : Translation → List Translation → List Translation
with_translation t ts = newest 63 (without t.asid t.page ts) ++ t ∷ []

-- There is at most one translation of an ASID and a page.
abbrev pub IsOneEach : List Translation → Type 0
IsOneEach ts = (asid page : ℕ) → length (filter (is_for asid page) ts) ≤ 1
