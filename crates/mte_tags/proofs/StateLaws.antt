-- Mode and flag: mapping, unmapping, bytes and tags leave both; an access leaves the mode, all tags,
-- the pages' attributes and how many pages are left.
use Rattle.std.proofs.Common.{◌≡◌, ℕ, suc, zero, ◌+◌, ◌/◌, ◌%◌, ◌^◌, Bool, true, false, cond, Option, Some, None, List, [], ◌∷◌, refl, ap, ◌∙◌}
use Rattle.mte_tags.specs.Memory.{Memory, Page, page_at, with_page, without_page, with_new_pages, without_pages, new_page, with_byte_cases, with_byte, with_granule_cases, with_granule, with_granules, with_pending, tag_at, attrs_at, pages_left}
use Rattle.mte_tags.specs.Accesses.{with_bytes, with_bytes_at, access_cases, after_access, write_access, after_read, after_write}
use Rattle.mte_tags.specs.declared.access.Access.{Access}
use Rattle.mte_tags.specs.declared.attrs.Attrs.{Attrs}
use Rattle.mte_tags.specs.declared.state.TagState.{TagState}
use Rattle.mte_tags.specs.Whole.{IsWhole}
use Rattle.mte_tags.proofs.Pages.{limit-with_page}
use Rattle.mte_tags.proofs.PageLaws.{attrs_at-with-bytes-at, pages_left-with-bytes-at}
use Rattle.mte_tags.proofs.Whole.{whole-with-bytes-at}
use Rattle.mte_tags.proofs.ByteLaws.{tag_at-with-bytes-at}

state-with-byte-cases : (m : Memory) (q o b : ℕ) (p : Option Page) → (with_byte_cases m q o b p).state ≡ m.state
unfolding with_page
state-with-byte-cases m q o b None = refl
state-with-byte-cases m q o b (Some p) = refl

pub state-with_bytes : (xs bs : List ℕ) (m : Memory) → (with_bytes m xs bs).state ≡ m.state
unfolding with_bytes with_byte
state-with_bytes (a ∷ more) (b ∷ bs) m = state-with_bytes more bs (with_byte m a b) ∙ state-with-byte-cases m (a / 4096) (a % 4096) b (page_at m (a / 4096))
state-with_bytes [] bs m = refl
state-with_bytes (a ∷ more) [] m = refl

pub state-with-bytes-at : (m : Memory) (a : ℕ) (bs : List ℕ) → (with_bytes_at m a bs).state ≡ m.state
unfolding with_bytes_at
state-with-bytes-at m a bs = state-with_bytes _ bs m

state-with-granule-cases : (m : Memory) (q g t : ℕ) (z : Bool) (p : Option Page) → (with_granule_cases m q g t z p).state ≡ m.state
unfolding with_page
state-with-granule-cases m q g t z None = refl
state-with-granule-cases m q g t z (Some p) = refl

pub state-with_granules : (n : ℕ) (m : Memory) (a t : ℕ) (z : Bool) → (with_granules m a n t z).state ≡ m.state
unfolding with_granules with_granule
state-with_granules zero m a t z = refl
state-with_granules (suc n) m a t z =
    state-with_granules n (with_granule m a t z) ((a + 16) % 2 ^ 56) t z ∙ state-with-granule-cases m (a / 4096) (a % 4096 / 16) t z (page_at m (a / 4096))

pub state-with_new_pages : (n : ℕ) (m : Memory) (q : ℕ) (x : Attrs) → (with_new_pages m q n x).state ≡ m.state
unfolding with_new_pages with_page
state-with_new_pages zero m q x = refl
state-with_new_pages (suc n) m q x = state-with_new_pages n (with_page m q (new_page x.0)) (q + 1) x

pub state-without_pages : (n : ℕ) (m : Memory) (q : ℕ) → (without_pages m q n).state ≡ m.state
unfolding without_pages without_page
state-without_pages zero m q = refl
state-without_pages (suc n) m q = state-without_pages n (without_page m q) (q + 1)

mode_of_flag : (b : Bool) (m : Memory) → (cond b (with_pending m) m).state.mode ≡ m.state.mode
unfolding with_pending
mode_of_flag true m = refl
mode_of_flag false m = refl

pub mode-after_access : (m : Memory) (x : Access) (xs : List ℕ) → (after_access m x xs).state.mode ≡ m.state.mode
unfolding after_access
mode-after_access m x xs = mode_of_flag (access_cases m.state.mode m x xs).pending m

pub mode-after_read : (m : Memory) (a n : ℕ) (check : Bool) → (after_read m a n check).state.mode ≡ m.state.mode
unfolding after_read
mode-after_read m a n check = mode-after_access m _ _

pub mode-after_write : (m : Memory) (a : ℕ) (bs : List ℕ) (check : Bool) → (after_write m a bs check).state.mode ≡ m.state.mode
unfolding after_write
mode-after_write m a bs check = ap (λ (s : TagState). s.mode) (state-with-bytes-at (after_access m (write_access a check) _) a bs) ∙ mode-after_access m (write_access a check) _

-- the flag is in no tag
tag_of_flag : (b : Bool) (m : Memory) (c : ℕ) → tag_at (cond b (with_pending m) m) c ≡ tag_at m c
unfolding tag_at page_at with_pending
tag_of_flag true m c = refl
tag_of_flag false m c = refl

tag_at-after_access : (m : Memory) (x : Access) (xs : List ℕ) (c : ℕ) → tag_at (after_access m x xs) c ≡ tag_at m c
unfolding after_access
tag_at-after_access m x xs c = tag_of_flag (access_cases m.state.mode m x xs).pending m c

pub tag_at-after_read : (m : Memory) (a n : ℕ) (check : Bool) (c : ℕ) → tag_at (after_read m a n check) c ≡ tag_at m c
unfolding after_read
tag_at-after_read m a n check c = tag_at-after_access m _ _ c

pub tag_at-after_write : (m : Memory) (a : ℕ) (bs : List ℕ) (check : Bool) (c : ℕ) → tag_at (after_write m a bs check) c ≡ tag_at m c
unfolding after_write
tag_at-after_write m a bs check c = tag_at-with-bytes-at (after_access m (write_access a check) _) a bs c ∙ tag_at-after_access m (write_access a check) _ c

-- ---- attributes, and how many pages are left

attrs-of_flag : (b : Bool) (m : Memory) (q : ℕ) → attrs_at (cond b (with_pending m) m) q ≡ attrs_at m q
unfolding attrs_at page_at with_pending
attrs-of_flag true m q = refl
attrs-of_flag false m q = refl

left-of_flag : (b : Bool) (m : Memory) → pages_left (cond b (with_pending m) m) ≡ pages_left m
unfolding pages_left with_pending
left-of_flag true m = refl
left-of_flag false m = refl

attrs-after_access : (m : Memory) (x : Access) (xs : List ℕ) (q : ℕ) → attrs_at (after_access m x xs) q ≡ attrs_at m q
unfolding after_access
attrs-after_access m x xs q = attrs-of_flag (access_cases m.state.mode m x xs).pending m q

left-after_access : (m : Memory) (x : Access) (xs : List ℕ) → pages_left (after_access m x xs) ≡ pages_left m
unfolding after_access
left-after_access m x xs = left-of_flag (access_cases m.state.mode m x xs).pending m

pub attrs-after_read : (m : Memory) (a n : ℕ) (check : Bool) (q : ℕ) → attrs_at (after_read m a n check) q ≡ attrs_at m q
unfolding after_read
attrs-after_read m a n check q = attrs-after_access m _ _ q

pub left-after_read : (m : Memory) (a n : ℕ) (check : Bool) → pages_left (after_read m a n check) ≡ pages_left m
unfolding after_read
left-after_read m a n check = left-after_access m _ _

pub attrs-after_write : (m : Memory) (a : ℕ) (bs : List ℕ) (check : Bool) (q : ℕ) → attrs_at (after_write m a bs check) q ≡ attrs_at m q
unfolding after_write
attrs-after_write m a bs check q = attrs_at-with-bytes-at _ a bs q ∙ attrs-after_access m _ _ q

pub left-after_write : (m : Memory) (a : ℕ) (bs : List ℕ) (check : Bool) → pages_left (after_write m a bs check) ≡ pages_left m
unfolding after_write
left-after_write m a bs check = pages_left-with-bytes-at _ a bs ∙ left-after_access m _ _

-- ---- how many pages there may be, and that a memory is whole

limit-granule_in : (m : Memory) (q g t : ℕ) (z : Bool) (p : Option Page) → (with_granule_cases m q g t z p).limit ≡ m.limit
limit-granule_in m q g t z None = refl
limit-granule_in m q g t z (Some p) = limit-with_page m q _

pub limit-with_granules : (n : ℕ) (m : Memory) (a t : ℕ) (z : Bool) → (with_granules m a n t z).limit ≡ m.limit
unfolding with_granules with_granule
limit-with_granules zero m a t z = refl
limit-with_granules (suc n) m a t z = limit-with_granules n (with_granule m a t z) ((a + 16) % 2 ^ 56) t z ∙ limit-granule_in m (a / 4096) (a % 4096 / 16) t z (page_at m (a / 4096))

limit-byte_in : (m : Memory) (q o b : ℕ) (p : Option Page) → (with_byte_cases m q o b p).limit ≡ m.limit
limit-byte_in m q o b None = refl
limit-byte_in m q o b (Some p) = limit-with_page m q _

limit-with_bytes : (xs bs : List ℕ) (m : Memory) → (with_bytes m xs bs).limit ≡ m.limit
unfolding with_bytes with_byte
limit-with_bytes (a ∷ more) (b ∷ bs) m = limit-with_bytes more bs (with_byte m a b) ∙ limit-byte_in m (a / 4096) (a % 4096) b (page_at m (a / 4096))
limit-with_bytes [] bs m = refl
limit-with_bytes (a ∷ more) [] m = refl

pub limit-with-bytes-at : (m : Memory) (a : ℕ) (bs : List ℕ) → (with_bytes_at m a bs).limit ≡ m.limit
unfolding with_bytes_at
limit-with-bytes-at m a bs = limit-with_bytes _ bs m

limit-if : (b : Bool) (m : Memory) → (cond b (with_pending m) m).limit ≡ m.limit
unfolding with_pending
limit-if true m = refl
limit-if false m = refl

pub limit-after_access : (m : Memory) (x : Access) (xs : List ℕ) → (after_access m x xs).limit ≡ m.limit
unfolding after_access with_pending
limit-after_access m x xs = limit-if (access_cases m.state.mode m x xs).pending m

whole-pending : (b : Bool) (m : Memory) → IsWhole m → IsWhole (cond b (with_pending m) m)
unfolding page_at with_pending
whole-pending true m w = record { within = w.within; pages = w.pages }
whole-pending false m w = w

pub whole-after_access : (m : Memory) (x : Access) (xs : List ℕ) → IsWhole m → IsWhole (after_access m x xs)
unfolding after_access
whole-after_access m x xs w = whole-pending (access_cases m.state.mode m x xs).pending m w

pub limit-after_read : (m : Memory) (a n : ℕ) (check : Bool) → (after_read m a n check).limit ≡ m.limit
unfolding after_read
limit-after_read m a n check = limit-after_access m _ _

pub whole-after_read : (m : Memory) (a n : ℕ) (check : Bool) → IsWhole m → IsWhole (after_read m a n check)
unfolding after_read
whole-after_read m a n check w = whole-after_access m _ _ w

pub limit-after_write : (m : Memory) (a : ℕ) (bs : List ℕ) (check : Bool) → (after_write m a bs check).limit ≡ m.limit
unfolding after_write
limit-after_write m a bs check = limit-with-bytes-at _ a bs ∙ limit-after_access m _ _

pub whole-after_write : (m : Memory) (a : ℕ) (bs : List ℕ) (check : Bool) → IsWhole m → IsWhole (after_write m a bs check)
unfolding after_write
whole-after_write m a bs check w = whole-with-bytes-at _ a bs (whole-after_access m _ _ w)
