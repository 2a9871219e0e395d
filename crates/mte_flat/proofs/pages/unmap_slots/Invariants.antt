use Rattle.std.proofs.Common.{◌≡◌, ℕ, ◌<◌, ◌≤◌, ◌+◌, ◌-◌, IsSome, vec_len, vec_capacity}
use Rattle.mte_tags.specs.Memory.{Memory, page_at, without_pages}
use Rattle.mte_flat.specs.Inner.Slots.{slots_memory, AreSlots}
use Rattle.mte_flat.specs.Inner.Written.{KeepsUnwritten}
use Rattle.mte_flat.proofs.pages.unmap_slots.Given as goal

abbrev pub invariant-loop-i : goal.invariant-loop-i
invariant-loop-i l = record {
  len : vec_len l.slots ≤ vec_len l.initial.slots;
  capacity : vec_capacity l.slots ≡ vec_capacity l.initial.slots;
  slots : AreSlots l.slots.items;
  kept : KeepsUnwritten l.initial.slots.items l.slots.items;
  mapped : (n : Memory) (k : ℕ) → l.i ≤ k → k < l.count → IsSome (page_at (slots_memory n l.slots.items) (l.page + k));
  memory : (n : Memory) → without_pages (slots_memory n l.slots.items) (l.page + l.i) (l.count - l.i) ≡ without_pages (slots_memory n l.initial.slots.items) l.page l.count;
}
