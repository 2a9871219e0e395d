use Rattle.std.proofs.Common.{◌≡◌, ◌∙◌, ◌-◌, sym, ap, false, get_or, arith}
use Rattle.mte_translate.specs.declared.translation.Translation.{Translation}
use Rattle.mte_translate.specs.Translations.{is_for}
use Rattle.mte_translate.proofs.ChainLemmas.{passed-none, passed-more, passed-all}
use Rattle.mte_translate.proofs.tlb.find.Goals as goal

pub loop-end-init : goal.loop-end-init
loop-end-init c = passed-none _ _ _ _ _ _ _ c.requires.chained c.end-end.ensures

pub loop-end-preserved : goal.loop-end-preserved
loop-end-preserved c =
    let w = c.args.translations.now in
    let k = c.loop-end.end - 1 - w.first in
    let none : Translation = record { asid = 0; page = 0; frame = 0; attrs = record { 0 = 0 } } in
    let not : is_for c.args.asid c.args.page (get_or w.items k none) ≡ false =
    sym (ap (is_for c.args.asid c.args.page) (c.get.ensures.value none)) ∙ sym c.is_for.ensures ∙ c.if-is_for.false in
    passed-more _ _ w.first _ _ _ _ _ k none c.requires.chained c.loop-end.invariant (omega (arith, c.loop-end-test.true, c.first.ensures)) not c.end_before-end.ensures

pub returns-clause-none : goal.returns-clause-none
returns-clause-none c = λ _.
    passed-all _ _ _ _ _ c.loop-end.invariant (omega (arith, c.loop-end-test.false, c.first.ensures))
