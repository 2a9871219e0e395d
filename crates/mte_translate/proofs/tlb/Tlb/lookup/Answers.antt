use Rattle.std.proofs.Common.{◌∙◌, ◌-◌, ◌<◌, sym, ap, length, arith}
use Rattle.mte_translate.specs.Translations.{is_for}
use Rattle.mte_translate.proofs.TlbLemmas.{lookup-at}
use Rattle.mte_translate.proofs.tlb.Tlb.lookup.Goals as goal

pub returns : goal.returns
returns c =
    let w = c.self.inside.translations in
    let place = c.in_ok-place.place in
    let found = c.in_ok-place.ensures.found in
    let here = c.get-translation.ensures.value c.get-translation.result in
    let inside : place - w.first < length w.items = omega (arith, found.from, found.within) in
    sym (lookup-at c.args.asid c.args.page c.args.self.now w.items (place - w.first) c.get-translation.result c.self.invariant.one_each c.self.view_is inside here (ap (is_for c.args.asid c.args.page) here ∙ found.is c.get-translation.result))
