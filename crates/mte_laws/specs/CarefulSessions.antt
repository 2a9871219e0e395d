-- A tenant of a session through slices of careful instructions: its live chunks, and those that it
-- freed whose blocks no allocation has taken since.
--     freed_after n m l xs     the freed chunks after the next attempted instruction
--     freed_through n m l xs   the freed chunks after the next n
--     live_of own m l          the live chunks after its own events
--     freed_of own m l xs      the freed chunks after its own events
--     AreCareful own m l       its slices are careful
--     IsCarefulIn s life m     the session s admits a tenant, in the synchronous mode, whose slices
--                              are careful, and its host has the machine m of it in the end
use Rattle.std.specs.Prelude.{◌≡◌, ℕ, zero, suc, ◌++◌, Bool, List, [], ◌∷◌, filter}
use Rattle.std.specs.Prelude.{Option, Some, None, Result, Ok, Err, if◌then◌else◌}
use Rattle.a64_bits.specs.Addresses.{plain}
use Rattle.mte_tags.specs.declared.state.TagMode.TheVariants.{Sync}
use Rattle.scudo_primary.specs.Pools.{is_member}
use Rattle.scudo_heap.specs.declared.abort.HeapAbort.{HeapAbort}
use Rattle.scudo_heap.specs.declared.call.HeapCall.{HeapCall}
use Rattle.scudo_heap.specs.declared.call.HeapCall.TheVariants.{Malloc, Free, Calloc, Realloc}
use Rattle.scudo_heap.specs.declared.call.HeapCall.TheVariants.{Memalign, UsableSize}
use Rattle.scudo_heap.specs.declared.chunk.Found.{Found}
use Rattle.scudo_heap.specs.Stacks.{StackState, stack_of}
use Rattle.mte_tenant.specs.Machines.{Machine, start_of, runs, after_attempt, after_slice}
use Rattle.mte_sched.specs.Lives.{TenantEvent, OwnSlice, OwnStop, Session, Life, lives, life_among}
use Rattle.mte_sched.specs.Contents as contents
use Rattle.mte_sched.specs.Contents.{TenantState, Gone, Tenant}
use Rattle.mte_sched.specs.Isolation.{content_after, tenant_among}
use Rattle.mte_laws.specs.LiveChunks.{BlockChunk, chunk_at}
use Rattle.mte_laws.specs.CarefulRuns.{State, Live, no_chunks, found_at}
use Rattle.mte_laws.specs.CarefulTenants.{state_of, before_service, next_call, live_after}
use Rattle.mte_laws.specs.CarefulTenants.{live_through, IsCareful}

-- ---- freed chunks

-- The chunk of a size class that a pointer names, where it passes the checks.
abbrev pub named_chunk_cases : Result Found HeapAbort → Option BlockChunk → List BlockChunk
named_chunk_cases (Err e) x = []
named_chunk_cases (Ok f) None = []
named_chunk_cases (Ok f) (Some x) = x ∷ []

-- The live chunk of a size class that a pointer names, if it names one.
abbrev pub named_at : State → ℕ → List BlockChunk
named_at s pointer =
    named_chunk_cases (found_at s.world pointer) (chunk_at s.live.blocks (plain pointer))

-- The chunk that a free or a reallocation may free.
abbrev pub named_chunks : State → Option HeapCall → List BlockChunk
named_chunks s None = []
named_chunks s (Some (Malloc size)) = []
named_chunks s (Some (Free pointer)) = named_at s pointer
named_chunks s (Some (Calloc count size)) = []
named_chunks s (Some (Realloc pointer size)) = named_at s pointer
named_chunks s (Some (Memalign align size)) = []
named_chunks s (Some (UsableSize pointer)) = []

-- Whether the block of a chunk is free.
abbrev pub has_free_block : StackState → BlockChunk → Bool
has_free_block s x = is_member (stack_of s x.place.class) x.place.block

-- The freed chunks whose blocks are still free, after an attempt.
unfoldable pub freed_after : ℕ → Machine → Live → List BlockChunk → List BlockChunk
freed_after n m l xs =
    filter (has_free_block (after_attempt n m).machine.parts.heap.stacks)
    (named_chunks (state_of (before_service m) l) (next_call m) ++ xs)

-- The same after a slice.
unfoldable pub freed_through : ℕ → Machine → Live → List BlockChunk → List BlockChunk
freed_through zero m l xs = xs
freed_through (suc n) m l xs = if runs m
    then (if (after_attempt n m).goes_on
    then freed_through n (after_attempt n m).machine (live_after m l) (freed_after n m l xs)
    else freed_after n m l xs)
    else xs

-- ---- a tenant's own events

-- The live chunks after the own events of a tenant.
unfoldable pub live_of : List TenantEvent → Machine → Live → Live
live_of [] m l = l
live_of (OwnSlice n ∷ more) m l = live_of more (after_slice n m) (live_through n m l)
live_of (OwnStop ∷ more) m l = l

-- The freed chunks whose blocks are still free, after the own events of a tenant.
unfoldable pub freed_of : List TenantEvent → Machine → Live → List BlockChunk → List BlockChunk
freed_of [] m l xs = xs
freed_of (OwnSlice n ∷ more) m l xs =
    freed_of more (after_slice n m) (live_through n m l) (freed_through n m l xs)
freed_of (OwnStop ∷ more) m l xs = xs

-- All slices of a tenant are careful.
unfoldable pub AreCareful : List TenantEvent → Machine → Live → Type 0
AreCareful [] m l = Unit {0}
AreCareful (OwnSlice n ∷ more) m l =
    IsCareful n m l × AreCareful more (after_slice n m) (live_through n m l)
AreCareful (OwnStop ∷ more) m l = Unit {0}

-- ---- sessions

-- A live tenant's machine.
abbrev pub machine_held : TenantState → Option Machine
machine_held (contents.Live m) = Some m
machine_held (Gone r) = None

abbrev pub machine_cases : Option Tenant → Option Machine
machine_cases None = None
machine_cases (Some t) = machine_held t.held

-- The machine of a tenant before its first instruction.
abbrev pub first_machine : Life → Machine
first_machine life = start_of life.id life.start

-- A tenant of a session in the synchronous mode, whose slices are careful, with its machine.
pub record IsCarefulIn (s : Session) (life : Life) (m : Machine) : Type 0 where
  pub admitted : life_among life.id (lives s) ≡ Some life
  pub sync : life.start.terms.mode ≡ Sync
  pub careful : AreCareful life.own (first_machine life) no_chunks
  pub machine : machine_cases (tenant_among life.id (content_after s).tenants) ≡ Some m

-- Its state in the end, and the chunks that it freed whose blocks are free.
abbrev pub state_in : Life → Machine → State
state_in life m = state_of m (live_of life.own (first_machine life) no_chunks)

-- The chunks that a tenant freed and whose blocks are still free.
abbrev pub freed_in : Life → List BlockChunk
freed_in life = freed_of life.own (first_machine life) no_chunks []
