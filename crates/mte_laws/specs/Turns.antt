-- A tenant's machine through careful instructions, over the ends of its slices.
--     Turns P m l k j           from the machine m to k, with P after each instruction
--     KeepsFreeThrough d k j    no allocation took the block of a freed chunk up to k
use Rattle.std.specs.Prelude.{◌≡◌, ℕ, ◌-◌, Some, None}
use Rattle.a64_bits.specs.Addresses.{plain}
use Rattle.mte_tags.specs.declared.state.TagMode.TheVariants.{Sync}
use Rattle.mte_tenant.specs.Machines.{Machine, after_attempt, after_slice_end}
use Rattle.mte_sched.specs.Lives.{Session, Life, lives, life_among}
use Rattle.mte_laws.specs.CarefulRuns.{State, Live, no_chunks, HasFreeBlock}
use Rattle.mte_laws.specs.CarefulTenants.{state_of, before_service, next_call, live_after}
use Rattle.mte_laws.specs.CarefulTenants.{IsCarefulNext}
use Rattle.mte_laws.specs.CarefulSessions.{first_machine, live_of, IsCarefulIn}
use Rattle.mte_laws.specs.Laws.{IsOutOfReach}
use Rattle.mte_laws.specs.SoundHeaps.{Sound}
use Rattle.mte_laws.specs.Discipline.{AreOtherTags, given_tag}
use Rattle.mte_laws.specs.TenantLaws.{NextDeallocation}
use Rattle.mte_laws.specs.Frees.{HasFreedHeader, IsAborted}
use Rattle.mte_laws.specs.OtherChunks.{AreSame}

-- next: a careful attempt, with `left` steps of its slice left, after which P holds
-- pause: the end of a slice
pub data Turns (P : State → Type 0) : Machine → Live → Machine → Live → Type 0 where
  stop : {m : Machine} {l : Live} → Turns P m l m l
  next :
      {m k : Machine} {l j : Live} → (left : ℕ) → IsCarefulNext m l
      → P (state_of (after_attempt left m).machine (live_after m l))
      → Turns P (after_attempt left m).machine (live_after m l) k j → Turns P m l k j
  pause : {m k : Machine} {l j : Live} → Turns P (after_slice_end m) l k j → Turns P m l k j

-- Such turns, whatever holds between.
abbrev pub AnyTurns : Machine → Live → Machine → Live → Type 0
AnyTurns = Turns (λ s. Unit {0})

-- A tenant of a session whose slices were careful came to its machine by such turns.
abbrev pub TenantsTakeTurns : Type 0
TenantsTakeTurns =
    (s : Session) (life : Life) (m : Machine) → IsCarefulIn s life m
    → AnyTurns (first_machine life) no_chunks m (live_of life.own (first_machine life) no_chunks)

-- A tenant that a session admits in the synchronous mode keeps what the laws rest on.
abbrev pub TurnsStaySound : Type 0
TurnsStaySound =
    (s : Session) (life : Life) (m : Machine) (l : Live)
    → life_among life.id (lives s) ≡ Some life → life.start.terms.mode ≡ Sync
    → AnyTurns (first_machine life) no_chunks m l → Sound (state_of m l)

-- From the instruction on that frees a chunk of a size class, in whatever slice, no allocation has
-- taken its block.
abbrev pub KeepsFreeThrough :
    {m : Machine} {l : Live} → NextDeallocation m l → Machine → Live → Type 0
KeepsFreeThrough {m} {l} d k j =
    (left : ℕ)
    × Turns (HasFreeBlock d.freed.chunk) (after_attempt left m).machine (live_after m l) k j

-- An instruction that is no heap call leaves the eight bytes of the header of a user address.
abbrev pub KeepsHeader : ℕ → ℕ → Machine → Type 0
KeepsHeader user left m =
    next_call m ≡ None
    → AreSame m.memory (after_attempt left m).machine.memory (user - 16) (user - 8)

-- All instructions of turns do.
unfoldable pub LeavesHeader :
    {P : State → Type 0} {m k : Machine} {l j : Live} → ℕ → Turns P m l k j → Type 0
LeavesHeader user stop = Unit {0}
LeavesHeader user (next {m = m} left careful p turns) =
    KeepsHeader user left m × LeavesHeader user turns
LeavesHeader user (pause turns) = LeavesHeader user turns

-- refused: each checked access through the pointer to the freed chunk that touches one of its
-- granules faults
-- aborted: each call that names the chunk, by whatever tag, aborts, while the header is the one
-- that the free wrote
-- left: so it does where the instructions that are no heap calls leave the header
-- reused: the allocation that takes the block next and gives out the address has another tag than
-- the free gave
pub record FreedChunksInTurns : Type 0 where
  pub refused :
      (m k : Machine) (l j : Live) (d : NextDeallocation m l)
      → Sound (state_of m l) → KeepsFreeThrough d k j → IsOutOfReach k.memory d.freed.chunk
  pub aborted :
      (m k : Machine) (l j : Live) (d : NextDeallocation m l) (pointer : ℕ)
      → Sound (state_of m l) → KeepsFreeThrough d k j
      → HasFreedHeader (state_of k j).world d.freed.chunk
      → plain pointer ≡ plain d.freed.pointer → IsAborted (state_of k j).world pointer
  pub left :
      (m k : Machine) (l j : Live) (d : NextDeallocation m l) (pointer : ℕ)
      → Sound (state_of m l) → (free : KeepsFreeThrough d k j)
      → LeavesHeader d.freed.chunk.place.user free.1
      → plain pointer ≡ plain d.freed.pointer → IsAborted (state_of k j).world pointer
  pub reused :
      (m k : Machine) (l j : Live) (d : NextDeallocation m l)
      → Sound (state_of m l) → KeepsFreeThrough d k j → IsCarefulNext k j
      → AreOtherTags (state_of (before_service k) j) d.freed.chunk.place.user (given_tag d.freed)
