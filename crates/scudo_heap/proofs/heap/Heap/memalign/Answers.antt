use Rattle.std.proofs.Common.{◌∙◌, sym, ap, subst}
use Rattle.std.proofs.lemmas.Bool.{cond-true, cond-false}
use Rattle.scudo_header.specs.declared.headers.Origin.TheVariants.{Memalign}
use Rattle.scudo_heap.specs.Placing.{world_of}
use Rattle.scudo_heap.specs.Inner.{IsAlign}
use Rattle.scudo_heap.proofs.AllocationLemmas.{power-align}
use Rattle.scudo_heap.specs.Allocation.{AllocationResult, answer_of, after_allocate, after_memalign}
use Rattle.scudo_heap.proofs.PartLemmas.{parts-of, sound-after-address}
use Rattle.scudo_heap.proofs.heap.Heap.memalign.Goals as goal

pub returns-then-not-is_power-clause-answer : goal.returns-then-not-is_power-clause-answer
unfolding after_memalign
returns-then-not-is_power-clause-answer g c =
    ap (λ (x : AllocationResult). answer_of x.chunk) (sym (cond-false _ _ _ (sym c.is_power.ensures ∙ c.if-not-is_power.true)))

pub returns-then-not-is_power-clause-world : goal.returns-then-not-is_power-clause-world
unfolding after_memalign
returns-then-not-is_power-clause-world g c =
    ap (λ (x : AllocationResult). x.world) (sym (cond-false _ _ _ (sym c.is_power.ensures ∙ c.if-not-is_power.true)))

pub returns-clause-answer : goal.returns-clause-answer
unfolding after_memalign
returns-clause-answer g c =
    let m = g.M.Tagged.memory c.args.memory.now in
    c.allocate_address.ensures.answer
    ∙ ap (λ (x : AllocationResult). answer_of x.chunk) (ap (λ h. after_allocate (world_of m h c.args.rgsr.now) Memalign c.max-align.result c.args.size) c.self.view_is
    ∙ ap (λ a. after_allocate (world_of m c.args.self.now c.args.rgsr.now) Memalign a c.args.size) c.max-align.ensures
    ∙ sym (cond-true _ _ _ (sym c.is_power.ensures ∙ c.if-not-is_power.false)))

pub returns-clause-world : goal.returns-clause-world
unfolding after_memalign
returns-clause-world g c =
    let m = g.M.Tagged.memory c.args.memory.now in
    c.allocate_address.ensures.world
    ∙ ap (λ (x : AllocationResult). x.world) (ap (λ h. after_allocate (world_of m h c.args.rgsr.now) Memalign c.max-align.result c.args.size) c.self.view_is
    ∙ ap (λ a. after_allocate (world_of m c.args.self.now c.args.rgsr.now) Memalign a c.args.size) c.max-align.ensures
    ∙ sym (cond-true _ _ _ (sym c.is_power.ensures ∙ c.if-not-is_power.false)))

pub invariant_of-self : goal.invariant_of-self
invariant_of-self g c =
    let align = subst IsAlign (sym c.max-align.ensures) (power-align c.args.alignment (sym c.is_power.ensures ∙ c.if-not-is_power.false)) in
    parts-of _ (sound-after-address _ _ _ _ _ _ _ _ c.self.view_is c.self.invariant c.requires.served align c.allocate_address.ensures.world)

pub returns-clause-served : goal.returns-clause-served
returns-clause-served g c =
    let align = subst IsAlign (sym c.max-align.ensures) (power-align c.args.alignment (sym c.is_power.ensures ∙ c.if-not-is_power.false)) in
    (sound-after-address _ _ _ _ _ _ _ _ c.self.view_is c.self.invariant c.requires.served align c.allocate_address.ensures.world).owned
