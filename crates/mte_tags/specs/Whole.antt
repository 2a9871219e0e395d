-- A whole memory: no more pages than its limit, each with 4096 bytes and 256 tags.
use Rattle.std.specs.Prelude.{◌≡◌, ℕ, ◌≤◌, length, Some}
use Rattle.std.specs.FinMap as map
use Rattle.mte_tags.specs.Memory.{Memory, Page, page_at}

-- A page has 4096 bytes and 256 tags.
pub record IsWholePage (p : Page) : Type 0 where
  pub bytes : length p.bytes ≡ 4096
  pub tags : length p.tags ≡ 256

-- A memory keeps to its limit, and each of its pages is whole.
pub record IsWhole (m : Memory) : Type 0 where
  pub within : map.len m.pages ≤ m.limit
  pub pages : (q : ℕ) (p : Page) → page_at m q ≡ Some p → IsWholePage p
