-- The tag discipline of a tenant: of its machine through careful instructions, and of a tenant of a
-- session, whatever the other tenants do.
use Rattle.std.specs.Prelude.{◌≡◌, ℕ, ◌+◌, ◌<◌, ◌≤◌}
use Rattle.std.specs.Prelude.{Some, None, IsSome, List, All, false}
use Rattle.std.specs.List.{list_any}
use Rattle.mte_tags.specs.Accesses.{byte_fault}
use Rattle.mte_tags.specs.declared.access.Access.{Access}
use Rattle.common.specs.declared.ranges.TheConstants.{SECONDARY_START, SECONDARY_END}
use Rattle.mte_tags.specs.declared.state.TagMode.TheVariants.{Sync}
use Rattle.scudo_heap.specs.Chunks.{end_of}
use Rattle.scudo_heap.specs.Served.{is_inside}
use Rattle.mte_tenant.specs.Machines.{Start, Machine, start_of, after_attempt, after_slice}
use Rattle.mte_tenant.specs.Ledger.{LedgerEntry, admission_refusal}
use Rattle.mte_sched.specs.Lives.{Session, Life}
use Rattle.mte_laws.specs.LiveChunks.{BlockChunk, chunk_at}
use Rattle.mte_laws.specs.Laws.{IsRefused, IsOutOfReach}
use Rattle.mte_laws.specs.CarefulRuns.{Live, no_chunks}
use Rattle.mte_laws.specs.CarefulRuns.{HasFreeBlock}
use Rattle.mte_laws.specs.CarefulTenants.{state_of, before_service, next_call, live_after}
use Rattle.mte_laws.specs.CarefulTenants.{live_through, IsCarefulNext, IsCareful, Steps}
use Rattle.mte_laws.specs.CarefulSessions.{IsCarefulIn, state_in, freed_in}
use Rattle.mte_laws.specs.SoundHeaps.{Sound}
use Rattle.mte_laws.specs.Discipline.{IsUnmapped, Deallocation, AreOtherTags, given_tag}

-- ---- runs of a tenant's machine

-- A tenant that is admitted in the synchronous mode is sound.
abbrev pub TenantsStartSound : Type 0
TenantsStartSound =
    (frames : ℕ) (ledger : List LedgerEntry) (id : ℕ) (start : Start)
    → admission_refusal frames ledger id start ≡ None → start.terms.mode ≡ Sync
    → Sound (state_of (start_of id start) no_chunks)

-- Careful instructions of a slice, and its end, keep what the other laws rest on.
abbrev pub SlicesStaySound : Type 0
SlicesStaySound =
    (n : ℕ) (m : Machine) (l : Live) → Sound (state_of m l) → IsCareful n m l
    → Sound (state_of (after_slice n m) (live_through n m l))

-- The next instruction is careful, and a service that frees a live chunk of a size class.
pub record NextDeallocation (m : Machine) (l : Live) : Type 0 where
  pub careful : IsCarefulNext m l
  pub freed : Deallocation (state_of (before_service m) l)
  pub call : next_call m ≡ Some freed.call

-- From that instruction on, after which `left` steps of its slice are left, no allocation has taken
-- the chunk's block, up to the machine k with the live chunks j.
abbrev pub KeepsFreeTo : {m : Machine} {l : Live} → NextDeallocation m l → Machine → Live → Type 0
KeepsFreeTo {m} {l} d k j =
    (left : ℕ)
    × Steps (HasFreeBlock d.freed.chunk) (after_attempt left m).machine (live_after m l) k j

-- From the service that freed a chunk of a size class until an allocation takes its block, each
-- checked access through the pointer to it that touches one of its granules faults, whatever
-- careful instructions come between.
abbrev pub FreedBlocksStayRefused : Type 0
FreedBlocksStayRefused =
    (m k : Machine) (l j : Live) (d : NextDeallocation m l)
    → Sound (state_of m l) → KeepsFreeTo d k j → IsOutOfReach k.memory d.freed.chunk

-- The first allocation that takes the block of a chunk that a service freed, where it gives out the
-- same address: its tag is not the one that the free gave, whatever careful instructions come
-- between.
abbrev pub ReusedTagsStayDifferent : Type 0
ReusedTagsStayDifferent =
    (m k : Machine) (l j : Live) (d : NextDeallocation m l)
    → Sound (state_of m l) → KeepsFreeTo d k j → IsCarefulNext k j
    → AreOtherTags (state_of (before_service k) j) d.freed.chunk.place.user (given_tag d.freed)

-- ---- tenants of a session

-- The premises of the other laws hold of each tenant of a host whose slices were careful, whatever
-- the other tenants did.
abbrev pub TenantsStaySound : Type 0
TenantsStaySound =
    (s : Session) (life : Life) (m : Machine) → IsCarefulIn s life m → Sound (state_in life m)

-- Each checked access through the pointer to a chunk that it freed, in whatever slice, faults while
-- no allocation has taken the block.
abbrev pub FreedBlocksOfTenantsAreRefused : Type 0
FreedBlocksOfTenantsAreRefused =
    (s : Session) (life : Life) (m : Machine) → IsCarefulIn s life m
    → All (IsOutOfReach m.memory) (freed_in life)

-- In a session: each access, whatever its kind, to pages that a tenant freed faults.
abbrev pub FreedPagesOfTenantsAreRefused : Type 0
FreedPagesOfTenantsAreRefused =
    (s : Session) (life : Life) (m : Machine) (addr : ℕ) → IsCarefulIn s life m
    → SECONDARY_START ≤ addr → addr < SECONDARY_END
    → list_any (is_inside addr) m.parts.heap.maps.mappings ≡ false
    → IsUnmapped m.memory addr
    × ((x : Access) → IsSome (byte_fault m.memory x addr))

-- Each checked access through the pointer to a live chunk of its that touches the granule just
-- before or just after the chunk's faults.
pub record ChunksOfTenantsAreGuarded : Type 0 where
  pub before :
      (s : Session) (life : Life) (m : Machine) (u addr : ℕ) (x : BlockChunk)
      → IsCarefulIn s life m → chunk_at (state_in life m).live.blocks u ≡ Some x
      → x.place.user ≤ addr + 16 → addr < x.place.user → IsRefused m.memory x.tag addr
  pub after :
      (s : Session) (life : Life) (m : Machine) (u addr : ℕ) (x : BlockChunk)
      → IsCarefulIn s life m → chunk_at (state_in life m).live.blocks u ≡ Some x
      → end_of x.place ≤ addr → addr < end_of x.place + 16 → IsRefused m.memory x.tag addr
