use Rattle.std.proofs.Common.{◌≡◌, ◌∙◌, ◌-◌, sym, ap, arith, refl}
use Rattle.mte_tags.specs.Memory.{pages_left, page_at}
use Rattle.mte_flat.specs.Inner.Slots.{slots_memory}
use Rattle.mte_flat.specs.Inner.Places.{beside_pages, memory_of}
use Rattle.mte_flat.proofs.Places.{pages_left-slots}
use Rattle.mte_flat.proofs.pages.PagesPaged.map_pages.Goals as goal

pub map_slots-requires-clause-free : goal.map_slots-requires-clause-free
unfolding slots_memory page_at
map_slots-requires-clause-free c = λ m. c.requires.free

pub returns-then-count-self-clause-answer : goal.returns-then-count-self-clause-answer
returns-then-count-self-clause-answer c =
    let f = c.args.self.now in
    let left : pages_left (memory_of f) ≡ f.limit - c.len.result =
    sym (ap (λ k. f.limit - k) (c.len.ensures ∙ f.slots.ok.0) ∙ sym (pages_left-slots (beside_pages f) f.slots.items f.are_slots)) in
    ((λ h. cc), (λ h. absurd (omega arith)))

pub returns-clause-answer : goal.returns-clause-answer
returns-clause-answer c =
    let f = c.args.self.now in
    let left : pages_left (memory_of f) ≡ f.limit - c.len.result =
    sym (ap (λ k. f.limit - k) (c.len.ensures ∙ f.slots.ok.0) ∙ sym (pages_left-slots (beside_pages f) f.slots.items f.are_slots)) in
    ((λ h. omega arith), (λ h. refl))
