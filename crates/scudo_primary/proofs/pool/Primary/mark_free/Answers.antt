use Rattle.std.proofs.Common.{◌≡◌, true, false, get_or, ap, subst, sym, ◌∙◌, arith}
use Rattle.std.proofs.lemmas.List.{get_or-set_same}
use Rattle.scudo_primary.specs.Blocks.{IsBlock, number_of}
use Rattle.scudo_primary.specs.Pools.{empty_class, ClassState, IsLoose, class_at, class_with_mark}
use Rattle.scudo_primary.specs.Inner.{list_at}
use Rattle.scudo_header.proofs.ByClassLaws.{value_of-with_value}
use Rattle.scudo_primary.proofs.TableLemmas.{length-marks}
use Rattle.scudo_primary.proofs.ModelLemmas.{PoolDone, placed, mark-done, table-same, class_at-slices, used-unlisted}
use Rattle.scudo_primary.proofs.pool.Primary.mark_free.Goals as goal

pub set_mark-requires-clause-number : goal.set_mark-requires-clause-number
set_mark-requires-clause-number c = record {
  class = c.requires.class;
  inside = c.requires.carved.inside;
  slot = (placed c.self.inside c.args.self.now _ _ _ _ c.self.view_is c.self.invariant c.requires.class c.deref_mut.ensures.value c.deref.ensures.value c.requires.carved).slot;
}

pub set_mark-requires-clause-place : goal.set_mark-requires-clause-place
set_mark-requires-clause-place c =
    (placed c.self.inside c.args.self.now _ _ _ _ c.self.view_is c.self.invariant c.requires.class c.deref_mut.ensures.value c.deref.ensures.value c.requires.carved).place

done : (c : goal.After-self-1) → PoolDone c.self.inside c.args.self.now c.deref.result.now c.set_mark.new.entries c.self.inside.lists c.args.class (λ (k : ClassState). class_with_mark c.args.class k c.args.block true)
done c =
    mark-done c.self.inside c.args.self.now _ _ _ _ _ true c.self.view_is c.self.invariant c.requires.class
    c.deref_mut.ensures.value c.deref_mut.ensures.len c.deref.ensures.value c.requires.carved (λ e. cc) c.set_mark.ensures

pub returns-clause-pool : goal.returns-clause-pool
returns-clause-pool c = (done c).view

pub returns-clause-cached : goal.returns-clause-cached
returns-clause-cached c u =
    let t = table-same c.self.inside _ _ c.self.invariant c.deref_mut.ensures.value c.deref.ensures.value in
    let at = class_at-slices c.self.inside c.args.self.now _ _ _ c.self.view_is c.requires.class c.deref_mut.ensures.value c.deref.ensures.value in
    let block = subst (λ (k : ClassState). IsBlock c.args.class k.pages c.args.block) at c.requires.carved in
    let carved = block.carved in
    let length-is = length-marks c.deref_mut.result.now c.deref.result.now c.args.class (list_at c.self.inside.lists c.args.class).pages in
    let now = ap (λ p. class_at p c.args.class) (done c).view ∙ value_of-with_value c.args.self.now.classes empty_class c.args.class _ ∙ ap (λ (k : ClassState). class_with_mark c.args.class k c.args.block true) at in
    subst (λ (k : ClassState). IsLoose k c.args.class c.args.block) (sym now) (record {
      carved = block;
      marked = get_or-set_same _ (number_of c.args.class c.args.block) true false (omega arith);
      unlisted = used-unlisted _ _ _ _ _ (t.linked _ c.requires.class) block (subst (λ (k : ClassState). get_or k.marks (number_of c.args.class c.args.block) false ≡ false) at u);
    })

pub invariant_of-self : goal.invariant_of-self
invariant_of-self c = (done c).invariant
