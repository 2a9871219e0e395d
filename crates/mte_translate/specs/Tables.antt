-- A translation table of two levels (as in Arm ARM DDI 0487, D8.3) in frames out under one quota:
-- a root and leaves, each of 512 entries of 8 bytes, little endian. The root's entry q / 512 names
-- the leaf that serves the page q, and the leaf's entry q % 512 the page's frame and attributes.
-- Bit 0 says that an entry is valid; the fields above it are this host's own.
--     entry_at p f i             the entry i of the frame f
--     walk_at p root q           the leaf's entry for the page q, 0 where there is no leaf
--     translation_at p root q    the frame and attributes of the page q, if it is mapped
--     pages_of p root            the same as a finite map
--     has_leaf p root q          whether the leaf that serves the page q is there
--     IsApart p root f           f is no frame of the table's own
--     IsTable p k t              what holds of every table t under the quota k
--     KeepsData k root p n       what a call leaves of the quota's frames that aren't the table's
--     Stays k t p n              from p to n the table t stays as it is
--     MapsOnce m                 each frame has one page at most
--     MapsNever m f              no page is mapped to the frame f
--     IsCached m asid ts         the translations ts of the ASID are those of the pages m
use Rattle.std.specs.Prelude.{◌≡◌, ◌≢◌, ℕ, zero, suc, ◌+◌, ◌*◌, ◌/◌, ◌%◌, ◌<◌, ◌≤◌, ◌==◌, Bool}
use Rattle.std.specs.Prelude.{true}
use Rattle.std.specs.Prelude.{false, List, [], ◌∷◌, get_or, Option, Some, None, if◌then◌else◌, All}
use Rattle.std.specs.Int.{from_le_bytes, w64}
use Rattle.std.specs.List.{slice_range}
use Rattle.std.specs.Ordering.{nat_cmp}
use Rattle.std.specs.FinMap as map
use Rattle.std.specs.FinMap.{FinMap}
use Rattle.mte_arena.specs.Frames.{frame_at}
use Rattle.mte_frames.specs.Pool.{Pool, IsHeldBy, IsTaken, taken_by, reserved_by}
use Rattle.mte_tags.specs.declared.attrs.Attrs.{Attrs}
use Rattle.mte_translate.specs.declared.entries.TheConstants.{TABLE_PAGES}
use Rattle.mte_translate.specs.declared.translation.Translation.{Translation}

-- Entry i of the table in frame f: eight bytes, the lowest first.
unfoldable pub entry_at : Pool → ℕ → ℕ → ℕ
entry_at p f i =
    from_le_bytes w64 (slice_range (frame_at p.frames f).bytes (8 * i) (8 * i + 8))

-- A frame that is out, and one of its entries.
pub record HasEntry (p : Pool) (f i : ℕ) : Type 0 where
  pub out : IsTaken p f
  pub low : i < 512

-- Bit 0 of an entry says that it is valid.
abbrev pub is_valid : ℕ → Bool
is_valid e = e % 2 == 1

-- an entry of the root: above bit 0 ten bits, how many pages the leaf maps, and then its frame
abbrev pub count_in : ℕ → ℕ
count_in e = e / 2 % 1024

-- The frame of the leaf that an entry of the root names.
abbrev pub leaf_in : ℕ → ℕ
leaf_in e = e / 2048

-- an entry of a leaf: above bit 0 eight bits, the attributes, and then the frame
abbrev pub attrs_in : ℕ → Attrs
attrs_in e = record { 0 = e / 2 % 256 }

-- The frame of the page that an entry of a leaf names.
abbrev pub frame_in : ℕ → ℕ
frame_in e = e / 512

-- Whether the root has a leaf for a page.
abbrev pub has_leaf : Pool → ℕ → ℕ → Bool
has_leaf p root q = is_valid (entry_at p root (q / 512))

-- 1 where the leaf that serves the page isn't there
abbrev pub missing_leaf : Pool → ℕ → ℕ → ℕ
missing_leaf p root q = if has_leaf p root q then 0 else 1

-- The quota may take a frame for the leaf of a page, where that isn't there.
abbrev pub HasLeafLeft : Pool → ℕ → ℕ → ℕ → Type 0
HasLeafLeft p k root q = taken_by p k + missing_leaf p root q ≤ reserved_by p k

-- The entry that the walk for a page finds, in the leaf which the root names; 0 without a leaf.
unfoldable pub walk_at : Pool → ℕ → ℕ → ℕ
walk_at p root q =
    if has_leaf p root q then entry_at p (leaf_in (entry_at p root (q / 512))) (q % 512) else 0

-- The frame and the attributes of a valid entry.
abbrev pub translation_in : ℕ → Option (ℕ × Attrs)
translation_in e = if is_valid e then Some (frame_in e, attrs_in e) else None

-- The frame and the attributes of a mapped page.
abbrev pub translation_at : Pool → ℕ → ℕ → Option (ℕ × Attrs)
translation_at p root q = translation_in (walk_at p root q)

-- A list with a key and its value put before it, where there is a value.
abbrev pub before : {X : Type 0} → ℕ → Option X → List (ℕ × X) → List (ℕ × X)
before q None more = more
before q (Some x) more = (q, x) ∷ more

-- of the n numbers from q on those where g is something, with what it is
unfoldable pub entries_from : {X : Type 0} → (ℕ → Option X) → ℕ → ℕ → List (ℕ × X)
entries_from g q zero = []
entries_from g q (suc n) = before q (g q) (entries_from g (q + 1) n)

-- the finite map that is g below n
unfoldable pub map_below : {X : Type 0} → ℕ → (ℕ → Option X) → FinMap nat_cmp X
map_below n g = map.from_entries (entries_from g 0 n)

-- The mapping of each mapped page: its frame and its attributes.
abbrev pub Pages : Type 0
Pages = FinMap nat_cmp (ℕ × Attrs)

-- The finite map of all pages of a table.
unfoldable pub pages_of : Pool → ℕ → Pages
pages_of p root = map_below TABLE_PAGES (translation_at p root)

-- how many of the first n entries of a frame are valid
unfoldable pub valid_in : Pool → ℕ → ℕ → ℕ
valid_in p f zero = 0
valid_in p f (suc n) = valid_in p f n + entry_at p f n % 2

-- the frame f is neither the root nor a leaf
pub record IsApart (p : Pool) (root f : ℕ) : Type 0 where
  pub no_root : f ≢ root
  pub no_leaf : (s : ℕ) → s < 512 → is_valid (entry_at p root s) ≡ true
      → f ≢ leaf_in (entry_at p root s)

-- the frame f is out under the quota k, and its use is the n-th
pub record IsUsed (p : Pool) (k : ℕ) (use_of : ℕ → ℕ) (f n : ℕ) : Type 0 where
  pub out : IsHeldBy p f k
  pub use_is : use_of f ≡ n

-- The use of a frame is a number: 0 of the root, 1 + s of the leaf that the root's entry s names,
-- 513 of the frames of pages. That there is such a function says that root, leaves and the frames
-- of pages are all different, except that several pages may have one frame.
pub record IsTree (p : Pool) (k root : ℕ) (use_of : ℕ → ℕ) : Type 0 where
  pub own_root : IsUsed p k use_of root 0
  pub leaves : (s : ℕ) → s < 512 → is_valid (entry_at p root s) ≡ true
      → IsUsed p k use_of (leaf_in (entry_at p root s)) (1 + s)
  pub pages : (q : ℕ) → q < TABLE_PAGES → is_valid (walk_at p root q) ≡ true
      → IsUsed p k use_of (frame_in (walk_at p root q)) 513
  -- an entry of a leaf that isn't valid is 0
  pub clean : (q : ℕ) → q < TABLE_PAGES → is_valid (walk_at p root q) ≡ false
      → walk_at p root q ≡ 0
  pub counted : (s : ℕ) → s < 512 → is_valid (entry_at p root s) ≡ true
      → count_in (entry_at p root s) ≡ valid_in p (leaf_in (entry_at p root s)) 512

-- A tree with the use of each frame.
pub record IsTreeOf (p : Pool) (k root : ℕ) : Type 0 where
  pub use_of : ℕ → ℕ
  pub tree : IsTree p k root use_of

-- A tree, and an entry of its root.
pub record IsSlotOf (p : Pool) (k root s : ℕ) : Type 0 where
  pub tree : IsTreeOf p k root
  pub low : s < 512

-- A tree, and a page that it has an entry for.
pub record IsPageOf (p : Pool) (k root q : ℕ) : Type 0 where
  pub tree : IsTreeOf p k root
  pub low : q < TABLE_PAGES

-- The same without such a function: root and leaves are out under the quota and all different, and
-- the frames of pages are out under it and none of these.
pub record IsSoundTree (p : Pool) (k root : ℕ) : Type 0 where
  pub root_out : IsHeldBy p root k
  pub leaves_out : (s : ℕ) → s < 512 → is_valid (entry_at p root s) ≡ true
      → IsHeldBy p (leaf_in (entry_at p root s)) k
  pub no_root : (s : ℕ) → s < 512 → is_valid (entry_at p root s) ≡ true
      → leaf_in (entry_at p root s) ≢ root
  pub differ : (s r : ℕ) → s < 512 → r < 512 → is_valid (entry_at p root s) ≡ true
      → is_valid (entry_at p root r) ≡ true
      → leaf_in (entry_at p root s) ≡ leaf_in (entry_at p root r) → s ≡ r
  pub pages_out : (q : ℕ) → q < TABLE_PAGES → is_valid (walk_at p root q) ≡ true
      → IsHeldBy p (frame_in (walk_at p root q)) k
  pub pages_apart : (q : ℕ) → q < TABLE_PAGES → is_valid (walk_at p root q) ≡ true
      → IsApart p root (frame_in (walk_at p root q))
  -- an entry of a leaf that isn't valid is 0
  pub clean : (q : ℕ) → q < TABLE_PAGES → is_valid (walk_at p root q) ≡ false → walk_at p root q ≡ 0
  pub counted : (s : ℕ) → s < 512 → is_valid (entry_at p root s) ≡ true
      → count_in (entry_at p root s) ≡ valid_in p (leaf_in (entry_at p root s)) 512

-- no leaf is empty
abbrev pub IsTight : Pool → ℕ → Type 0
IsTight p root =
    (s : ℕ) → s < 512 → is_valid (entry_at p root s) ≡ true → count_in (entry_at p root s) ≢ 0

-- what a contract sees of a table: its root, how many pages it maps, how many leaves it has
pub record Root : Type 0 where
  pub frame : ℕ
  pub len : ℕ
  pub leaves : ℕ

-- A table whose tree is sound and has no empty leaf, with the counts of its pages and leaves.
pub record IsTable (p : Pool) (k : ℕ) (t : Root) : Type 0 where
  pub tree : IsSoundTree p k t.frame
  pub tight : IsTight p t.frame
  pub len_is : t.len ≡ map.len (pages_of p t.frame)
  pub leaves_are : t.leaves ≡ valid_in p t.frame 512

-- of some quota
abbrev pub IsSomeTable : Pool → Root → Type 0
IsSomeTable p t = (k : ℕ) × IsTable p k t

-- The frames out under the quota that aren't the table's own, those of pages among them, stay out,
-- keep bytes and tags, and don't become the table's own.
pub record KeepsData (k root : ℕ) (p n : Pool) : Type 0 where
  pub out : (f : ℕ) → IsHeldBy p f k → IsApart p root f → IsHeldBy n f k
  pub same : (f : ℕ) → IsHeldBy p f k → IsApart p root f
      → get_or n.frames f None ≡ get_or p.frames f None
  pub apart : (f : ℕ) → IsHeldBy p f k → IsApart p root f → IsApart n root f

-- from p to n the table stays, maps what it mapped, and has no other frames of its own
pub record Stays (k : ℕ) (t : Root) (p n : Pool) : Type 0 where
  pub table : IsTable n k t
  pub pages : pages_of n t.frame ≡ pages_of p t.frame
  pub apart : (f : ℕ) → IsApart p t.frame f → IsApart n t.frame f

-- No two pages have one frame.
abbrev pub MapsOnce : Pages → Type 0
MapsOnce m =
    (q r f : ℕ) (a b : Attrs) → map.get m q ≡ Some (f, a) → map.get m r ≡ Some (f, b) → q ≡ r

-- No page has the frame.
abbrev pub MapsNever : Pages → ℕ → Type 0
MapsNever m f = (q : ℕ) (a : Attrs) → map.get m q ≢ Some (f, a)

-- q is the least page that is mapped
pub record IsFirst (m : Pages) (q : ℕ) : Type 0 where
  pub mapped : map.get m q ≢ None
  pub least : (r : ℕ) → r < q → map.get m r ≡ None

-- A translation of this ASID is what the table maps.
abbrev pub Agrees : Pages → ℕ → Translation → Type 0
Agrees m asid t = t.asid ≡ asid → map.get m t.page ≡ Some (t.frame, t.attrs)

-- Each translation of this ASID is what the table maps.
abbrev pub IsCached : Pages → ℕ → List Translation → Type 0
IsCached m asid ts = All (Agrees m asid) ts
