use Rattle.std.proofs.Common.{◌≡◌, ◌∙◌, ◌-◌, sym, ap, length}
use Rattle.mte_flat.specs.Inner.Places.{beside_pages}
use Rattle.mte_flat.proofs.Places.{pages_left-slots}
use Rattle.mte_flat.proofs.pages.PagesPaged.pages_left.Goals as goal

pub returns-clause-answer : goal.returns-clause-answer
returns-clause-answer c =
    let f = c.args.self.now in
    let len : c.len-mapped.result ≡ length f.slots.items = c.len-mapped.ensures ∙ f.slots.ok.0 in
    ap (λ k. f.limit - k) len ∙ sym (pages_left-slots (beside_pages f) f.slots.items f.are_slots)
