use Rattle.std.proofs.Common.{◌≡◌, ◌<◌, length, subst, sym, refl, ap, ◌∙◌}
use Rattle.std.proofs.lemmas.List.{get_or_default}
use Rattle.scudo_primary.specs.Pools.{is_marked}
use Rattle.scudo_primary.specs.Inner.{no_entry, place_of}
use Rattle.scudo_primary.proofs.ModelLemmas.{placed, mark-entry}
use Rattle.scudo_primary.proofs.pool.Primary.is_free.Goals as goal

pub place-requires : goal.place-requires
place-requires c = record {
  class = c.requires.class;
  inside = (c.if-is_block.ensures.0 refl).inside;
  slot = (placed c.self.inside c.args.self.now c.self.inside.entries.items _ _ _ c.self.view_is c.self.invariant c.requires.class refl c.deref.ensures.value (c.if-is_block.ensures.0 refl)).slot;
}

at-bound : (c : goal.After-place) → c.place.result < length c.self.inside.entries.items
at-bound c =
    subst (λ t. t < length c.self.inside.entries.items) (sym c.place.ensures)
    (placed c.self.inside c.args.self.now c.self.inside.entries.items _ _ _ c.self.view_is c.self.invariant c.requires.class refl c.deref.ensures.value (c.if-is_block.ensures.0 refl)).place

pub index-requires : goal.index-requires
index-requires c = subst (λ t. c.place.result < t) (sym c.self.inside.entries.ok.0) (at-bound c)

mark : (c : goal.After-index) → c.place.result < length c.self.inside.entries.items → is_marked c.args.self.now c.args.class c.args.block ≡ c.index.result.now.free
mark c l =
    mark-entry c.self.inside c.args.self.now _ _ c.place.result c.index.result.now c.self.view_is c.requires.class (c.if-is_block.ensures.0 refl)
    (c.place.ensures ∙ ap (λ t. place_of t c.args.class c.args.block) c.deref.ensures.value)
    (get_or_default c.self.inside.entries.items c.place.result no_entry c.index.result.now l ∙ sym c.index.ensures)

pub returns-then-is_block : goal.returns-then-is_block
returns-then-is_block c =
    let l : c.place.result < length c.self.inside.entries.items =
    subst (λ t. t < length c.self.inside.entries.items) (sym c.place.ensures)
    (placed c.self.inside c.args.self.now c.self.inside.entries.items _ _ _ c.self.view_is c.self.invariant c.requires.class refl c.deref.ensures.value (c.if-is_block.ensures.0 refl)).place in
    let m = mark c l in
    record { free = ((λ t. record { carved = c.if-is_block.ensures.0 refl; marked = m ∙ t }), (λ k. sym m ∙ k.marked)); mark = λ b. sym m }
