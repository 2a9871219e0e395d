use Rattle.std.proofs.Common.{◌∙◌, sym, ap, subst, map, arith}
use Rattle.mte_flat.specs.Inner.Slots.{slots_memory, AreSlots}
use Rattle.mte_flat.specs.Inner.Written.{without_mark}
use Rattle.mte_flat.specs.Inner.Places.{beside_pages}
use Rattle.mte_flat.proofs.Unwritten.{AreSlots-unmarked, memory_unmarked}
use Rattle.mte_flat.proofs.pages.Pages.copy_unmarked.Goals as goal

pub invariant_of-result : goal.invariant_of-result
invariant_of-result c =
    let p = c.args.self.now in
    let items = c.in_ok-slots.ensures.items ∙ ap (map without_mark) c.as_slice.ensures.value in
    record {
      are_slots = subst AreSlots (sym items) (AreSlots-unmarked p.slots.items p.are_slots);
      below = omega (arith, p.below, p.slots.ok.0, c.in_ok-slots.ensures.len, c.as_slice.ensures.len);
      room = c.in_ok-slots.ensures.capacity;
    }

pub returns : goal.returns
returns c =
    let p = c.args.self.now in
    ap (slots_memory (beside_pages p)) (c.in_ok-slots.ensures.items ∙ ap (map without_mark) c.as_slice.ensures.value)
    ∙ memory_unmarked (beside_pages p) p.slots.items
