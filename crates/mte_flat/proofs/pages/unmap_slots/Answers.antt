use Rattle.std.proofs.Common.{◌≡◌, ◌∙◌, ◌<◌, ◌^◌, ◌+◌, ◌-◌, IsSome, None, sym, ap, subst, arith, refl, length, get_or}
use Rattle.mte_tags.specs.Memory.{Memory, page_at, without_page, without_pages}
use Rattle.mte_flat.specs.Inner.Slots.{slots_memory, AreSlots}
use Rattle.mte_flat.specs.declared.slot.Slot.{Slot}
use Rattle.mte_tags.proofs.Pages.{page_at-without_page_other}
use Rattle.mte_tags.proofs.PageLaws.{without_pages-step}
use Rattle.mte_flat.specs.Inner.Written.{unwritten_on}
use Rattle.mte_flat.proofs.Places.{any_memory, any_slot, mapped_low, some_is_not_none}
use Rattle.mte_flat.proofs.pages.unmap_slots.Goals as goal

pub overflow_add-gone : goal.overflow_add-gone
overflow_add-gone c =
    let low : c.args.page + c.loop-i.i < 2 ^ 18 = mapped_low any_memory c.loop-i.slots.items (c.args.page + c.loop-i.i) c.loop-i.invariant.slots (c.loop-i.invariant.mapped any_memory c.loop-i.i (omega arith) (omega arith)) in
    omega arith

pub returns-in_default-clause-memory : goal.returns-in_default-clause-memory
returns-in_default-clause-memory c =
    let q = c.args.page + c.loop-i.i in
    let there = c.loop-i.invariant.mapped any_memory c.loop-i.i (omega arith) (omega arith) in
    let gone : page_at (slots_memory any_memory c.loop-i.slots.items) q ≡ None = subst (λ items. page_at (slots_memory any_memory items) q ≡ None) c.deref.ensures.value (c.in_default.ensures.none refl any_memory) in
    absurd (some_is_not_none (page_at (slots_memory any_memory c.loop-i.slots.items) q) there gone)

pub loop-i-preserved : goal.loop-i-preserved
loop-i-preserved c =
    let items = c.loop-i.slots.items in
    let q = c.args.page + c.loop-i.i in
    let found = c.in-Some.ensures.some in
    let s = c.in-Some.s in
    let there : s < length items = rw (sym c.deref.ensures.value) found.0 in
    let page : (d : Slot) → (get_or items s d).page ≡ q = λ d. ap (λ xs. (get_or xs s d).page) (sym c.deref.ensures.value) ∙ found.1 d in
    let new = λ (n : Memory). c.take_slot.ensures.memory n any_slot ∙ ap (without_page (slots_memory n items)) (page any_slot) in
    let next : c.args.page + (c.loop-i.i + 1) ≡ q + 1 = omega arith in
    let less : c.args.count - (c.loop-i.i + 1) ≡ c.args.count - c.loop-i.i - 1 = omega arith in
    record {
      len = omega (arith, c.take_slot.ensures.len, c.loop-i.invariant.len);
      capacity = c.take_slot.ensures.capacity ∙ c.loop-i.invariant.capacity;
      slots = c.take_slot.ensures.slots;
      kept = unwritten_on c.args.slots.now.items items c.take_slot.new.slots.items c.loop-i.invariant.kept c.take_slot.ensures.kept;
      mapped = λ n k l u. subst IsSome (sym (ap (λ m. page_at m (c.args.page + k)) (new n) ∙ page_at-without_page_other (slots_memory n items) q (c.args.page + k) (λ e. omega arith))) (c.loop-i.invariant.mapped n k (omega arith) (omega arith));
      memory = λ n.
          ap (λ m. without_pages m (c.args.page + (c.loop-i.i + 1)) (c.args.count - (c.loop-i.i + 1))) (new n)
          ∙ ap (λ k. without_pages (without_page (slots_memory n items) q) k (c.args.count - (c.loop-i.i + 1))) next
          ∙ ap (λ k. without_pages (without_page (slots_memory n items) q) (q + 1) k) less
          ∙ sym (without_pages-step (slots_memory n items) q (c.args.count - c.loop-i.i) (omega arith))
          ∙ c.loop-i.invariant.memory n;
    }

pub returns-clause-memory : goal.returns-clause-memory
unfolding without_pages
returns-clause-memory c = λ n.
    let e : c.args.count - c.loop-i.i ≡ 0 = omega arith in
    ap (λ k. without_pages (slots_memory n c.loop-i.slots.items) (c.args.page + c.loop-i.i) k) (sym e) ∙ c.loop-i.invariant.memory n
