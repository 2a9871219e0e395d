use Rattle.std.proofs.Common.{[], ◌∷◌, ◌++◌, ◌≡◌, ◌∙◌, ◌<◌, ◌^◌, ◌+◌, ◌-◌, sym, ap, subst, arith, None}
use Rattle.mte_tags.specs.Memory.{Memory, page_at, with_page, with_new_pages, new_page}
use Rattle.mte_flat.specs.Inner.Slots.{slots_memory, page_of, AreSlots}
use Rattle.mte_tags.proofs.Pages.{page_at-with_page_other}
use Rattle.mte_tags.proofs.PageLaws.{with_new_pages-step}
use Rattle.mte_flat.specs.Inner.Written.{KeepsUnwritten, unwritten_on}
use Rattle.mte_flat.proofs.Unwritten.{unwritten_push}
use Rattle.mte_flat.proofs.Places.{AreSlots-push, slots_memory-push, any_memory}
use Rattle.mte_flat.proofs.pages.map_slots.Goals as goal

pub loop-i-preserved : goal.loop-i-preserved
loop-i-preserved c =
    let items = c.loop-i.slots.items in
    let q = c.args.page + c.loop-i.i in
    let slot = c.new_slot-slot.result in
    let free : (n : Memory) → page_at (slots_memory n items) slot.page ≡ None = λ n. rw c.new_slot-slot.ensures.page (c.loop-i.invariant.free n c.loop-i.i (omega arith) (omega arith)) in
    let low : slot.page < 2 ^ 18 = let p = c.new_slot-slot.ensures.page in omega arith in
    let pushed = c.push_reserved.ensures.items in
    let new = λ (n : Memory).
    ap (slots_memory n) pushed ∙ slots_memory-push n items slot (free n)
    ∙ ap (λ k. with_page (slots_memory n items) k (page_of slot)) c.new_slot-slot.ensures.page
    ∙ ap (with_page (slots_memory n items) q) c.new_slot-slot.ensures.holds in
    let next : c.args.page + (c.loop-i.i + 1) ≡ q + 1 = omega arith in
    let less : c.args.count - (c.loop-i.i + 1) ≡ c.args.count - c.loop-i.i - 1 = omega arith in
    record {
      len = omega (arith, c.push_reserved.ensures.len);
      capacity = c.push_reserved.ensures.capacity ∙ c.loop-i.invariant.capacity;
      slots = subst AreSlots (sym pushed) (AreSlots-push any_memory items slot (free any_memory) low c.new_slot-slot.ensures.small c.loop-i.invariant.slots);
      kept = subst (KeepsUnwritten c.args.slots.now.items) (sym pushed) (unwritten_on c.args.slots.now.items items (items ++ slot ∷ []) c.loop-i.invariant.kept (unwritten_push items slot c.new_slot-slot.ensures.written));
      free = λ n k l u. ap (λ m. page_at m (c.args.page + k)) (new n) ∙ page_at-with_page_other (slots_memory n items) q (new_page c.args.attrs.0) (c.args.page + k) (omega arith) ∙ c.loop-i.invariant.free n k (omega arith) (omega arith);
      memory = λ n.
          ap (λ m. with_new_pages m (c.args.page + (c.loop-i.i + 1)) (c.args.count - (c.loop-i.i + 1)) c.args.attrs) (new n)
          ∙ ap (λ k. with_new_pages (with_page (slots_memory n items) q (new_page c.args.attrs.0)) k (c.args.count - (c.loop-i.i + 1)) c.args.attrs) next
          ∙ ap (λ k. with_new_pages (with_page (slots_memory n items) q (new_page c.args.attrs.0)) (q + 1) k c.args.attrs) less
          ∙ sym (with_new_pages-step (slots_memory n items) q (c.args.count - c.loop-i.i) c.args.attrs (omega arith))
          ∙ c.loop-i.invariant.memory n;
    }

pub returns-clause-memory : goal.returns-clause-memory
unfolding with_new_pages
returns-clause-memory c = λ n.
    let e : c.args.count - c.loop-i.i ≡ 0 = omega arith in
    ap (λ k. with_new_pages (slots_memory n c.loop-i.slots.items) (c.args.page + c.loop-i.i) k c.args.attrs) (sym e) ∙ c.loop-i.invariant.memory n
