-- The contents of a space, and the state that its calls keep.
use Rattle.std.specs.Prelude.{◌≡◌, ℕ}
use Rattle.std.specs.Borrow.{MutBor}
use Rattle.mte_tags.specs.Memory.{Memory}
use Rattle.mte_tags.specs.declared.state.TagState.{TagState}
use Rattle.mte_frames.specs.declared.pool.FramePool.{FramePool}
use Rattle.mte_frames.specs.declared.pool.Quota.{Quota}
use Rattle.mte_translate.specs.declared.table.Table.{Table}
use Rattle.mte_translate.specs.declared.tlb.Tlb.{Tlb}
use Rattle.mte_space.specs.Spaces.{space_memory, KeepsRest, NoneEnters}
use Rattle.mte_space.specs.declared.remembered.RememberedPages.{RememberedPages}
use Rattle.mte_space.specs.declared.space.Space.{Space}

-- The tagged memory of a space.
abbrev pub memory_of : Space → Memory
memory_of s = space_memory s.pool.now s.table.now s.limit s.state.now

-- A ghost name says which borrow a reference is, whatever is written through it: so who lent it
-- has what was written last.
pub record SameBorrows (a b : Space) : Type 0 where
  pub pool : b.pool.ghost_name ≡ a.pool.ghost_name
  pub table : b.table.ghost_name ≡ a.table.ghost_name
  pub quota : b.quota.ghost_name ≡ a.quota.ghost_name
  pub tlb : b.tlb.ghost_name ≡ a.tlb.ghost_name
  pub state : b.state.ghost_name ≡ a.state.ghost_name
  pub remembered : b.remembered.ghost_name ≡ a.remembered.ghost_name

-- the borrows are the same, and what they hold besides the memory stays
pub record IsKept (a b : Space) : Type 0 where
  pub borrows : SameBorrows a b
  pub asid : b.asid ≡ a.asid
  pub limit : b.limit ≡ a.limit
  pub quota : b.quota.now ≡ a.quota.now
  pub rest : KeepsRest a.quota.now a.pool.now b.pool.now a.table.now b.table.now
  pub entries : NoneEnters a.asid a.tlb.now b.tlb.now

-- a space over these borrows
pub record IsOver (s : Space) (pool : MutBor FramePool) (table : MutBor Table)
    (quota : MutBor Quota) (tlb : MutBor Tlb) (state : MutBor TagState)
    (remembered : MutBor RememberedPages) (asid limit : ℕ)
    : Type 0 where
  pub pool_is : s.pool ≡ pool
  pub table_is : s.table ≡ table
  pub quota_is : s.quota ≡ quota
  pub tlb_is : s.tlb ≡ tlb
  pub state_is : s.state ≡ state
  pub remembered_is : s.remembered ≡ remembered
  pub asid_is : s.asid ≡ asid
  pub limit_is : s.limit ≡ limit
