-- The invariant of a translation lookaside buffer's fields. Its chains lead from each translation
-- to the next older one of its hash:
--     hash_of asid page                 the hash of a page of an address space
--     hashes_of ts                      those of translations
--     IsChained first heads gaps hs     for translations of the hashes hs, the oldest first and at
--                                       the place first, heads has for each hash the place after
--                                       the newest, and gaps for each place how many stand between
--                                       its translation and the next older
use Rattle.std.specs.Prelude.{◌≡◌, ℕ, ◌+◌, ◌*◌, ◌/◌, ◌%◌, ◌<◌, ◌≤◌, List, length, map, slice_index}
use Rattle.mte_translate.specs.Translations.{IsOneEach}
use Rattle.mte_translate.specs.declared.translation.Translation.{Translation}
use Rattle.mte_translate.specs.declared.tlb.Tlb.TheInside.{Inside}

-- The hash of an ASID and a page, below 256.
abbrev pub hash_of : ℕ → ℕ → ℕ
hash_of asid page = (page % 256 + page / 1024 % 256 + asid % 256 * 67) % 256

-- The hashes of translations, in their order.
abbrev pub hashes_of : List Translation → List ℕ
hashes_of ts = map (λ t. hash_of t.asid t.page) ts

-- The translations of one hash are a chain, from the newest at its head to the oldest.
pub record IsChained (first : ℕ) (heads gaps hs : List ℕ) : Type 0 where
  pub most : (h : ℕ) → slice_index heads h ≤ first + length hs
  -- none of a hash is newer than its head, and its head has the hash
  pub newest : (i : ℕ) → i < length hs → first + i < slice_index heads (slice_index hs i)
  pub own : (h i : ℕ) → slice_index heads h ≡ first + i + 1 → slice_index hs i ≡ h
  -- none of the hash of j stands between it and the next older, which has the hash
  pub between :
      (i j : ℕ) → i < j → j < length hs → slice_index hs i ≡ slice_index hs j
      → i + slice_index gaps (first + j) < j
  pub older :
      (i j : ℕ) → j < length hs → i + 1 + slice_index gaps (first + j) ≡ j
      → slice_index hs i ≡ slice_index hs j

-- The translations of a lookaside buffer.
abbrev pub translations_of : Inside → List Translation
translations_of f = f.translations.items

-- No translation is there twice, and the chains are those of the hashes.
pub record IsTlb (f : Inside) : Type 0 where
  pub one_each : IsOneEach (translations_of f)
  pub chained :
      IsChained f.translations.first f.chains.heads f.chains.gaps (hashes_of (translations_of f))
