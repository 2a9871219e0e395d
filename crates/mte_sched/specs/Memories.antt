-- Where a live tenant's memory is, and what holds of it in a pool and a translation lookaside
-- buffer that all tenants share.
use Rattle.std.specs.Prelude.{◌≡◌, ℕ, ◌+◌, ◌<◌, ◌≤◌, List, None}
use Rattle.common.specs.declared.limits.TheConstants.{MAX_PAGES}
use Rattle.common.specs.declared.ranges.TheConstants.{STACK_PAGES}
use Rattle.mte_tags.specs.Memory.{Memory}
use Rattle.mte_frames.specs.Pool.{Pool, frames_left, taken_by, reserved_by}
use Rattle.mte_translate.specs.Tables.{pages_of, IsCached}
use Rattle.mte_translate.specs.declared.translation.Translation.{Translation}
use Rattle.mte_space.specs.Remembered.{IsRemembered}
use Rattle.mte_space.specs.Spaces.{space_memory, IsSpace}
use Rattle.mte_elf.specs.Headers.{segments_of}
use Rattle.mte_elf.specs.Images.{refusal_of, pages_of as image_pages}
use Rattle.mte_elf.specs.declared.image.Plan.{Plan}
use Rattle.mte_sched.specs.declared.memory.TenantMemory.{TenantMemory}
use Rattle.mte_tenant.specs.Ledger.{charge_of}

-- The memory of a tenant with a reservation of `pages` pages.
abbrev pub memory_at : Pool → TenantMemory → ℕ → Memory
memory_at p a pages = space_memory p a.table pages a.state

-- The pool has the frames that a reservation is charged.
abbrev pub HasCharge : Pool → ℕ → Type 0
HasCharge p pages = charge_of pages ≤ frames_left p

-- An image that is not refused, with its plan, in a reservation that has its pages and the stack's.
pub record IsPlanned (file : List ℕ) (plan : Plan) (pages : ℕ) : Type 0 where
  pub image : refusal_of file ≡ None
  pub segments : plan.segments.items ≡ segments_of file
  pub room : image_pages file + STACK_PAGES ≤ pages

-- The memory of a tenant over shared frames: its space, its charge, and its translations.
pub record IsTenantMemory (p : Pool) (ts : List Translation) (asid pages : ℕ)
    (a : TenantMemory) : Type 0 where
  pub space : IsSpace p a.quota a.table pages
  -- the charge is reserved, and what is taken of it is the table's frames and those of its pages
  pub charged : reserved_by p a.quota ≡ charge_of pages
  pub counted : taken_by p a.quota ≡ 1 + a.table.len + a.table.leaves
  -- the translations of the ASID are those of the table
  pub cached : IsCached (pages_of p a.table.frame) asid ts
  -- the remembered pages are those of the table
  pub remembered : IsRemembered (pages_of p a.table.frame) a.remembered
  pub some : 0 < pages
  pub most : pages ≤ MAX_PAGES
