use Rattle.std.proofs.Common.{◌≡◌, ◌∙◌, ◌<◌, ◌-◌, Some, sym, ap, length, get_or, arith}
use Rattle.mte_translate.specs.declared.translation.Translation.{Translation}
use Rattle.mte_translate.specs.Translations.{is_for}
use Rattle.mte_translate.specs.Whole.{hash_of}
use Rattle.mte_translate.proofs.TlbLemmas.{lookup-at}
use Rattle.mte_translate.proofs.ChainLemmas.{hashes_long, newest-head}
use Rattle.mte_translate.proofs.tlb.Tlb.quick_lookup.Goals as goal

pub returns-then-end-first-clause-newest : goal.returns-then-end-first-clause-newest
returns-then-end-first-clause-newest c = λ ts t e is.
    let w = c.self.inside.translations in
    let at = newest-head c.args.asid c.args.page w.first _ _ w.items ts t c.self.invariant.chained (c.self.view_is ∙ e) is in
    absurd (omega (arith, at.0, c.end-end.ensures, c.first.ensures, c.if-end-first.true))

pub returns-then-is_for : goal.returns-then-is_for
returns-then-is_for c =
    let w = c.self.inside.translations in
    let most = c.self.invariant.chained.most (hash_of c.args.asid c.args.page) in
    let long = hashes_long w.items in
    let inside : c.end-end.result - 1 - w.first < length w.items = omega (arith, most, long, c.end-end.ensures, c.first.ensures, c.if-end-first.false) in
    record {
      found = lookup-at c.args.asid c.args.page c.args.self.now w.items (c.end-end.result - 1 - w.first) c.get-newest.result c.self.invariant.one_each c.self.view_is inside (c.get-newest.ensures.value _) (sym c.is_for.ensures ∙ c.if-is_for.true);
      newest = λ ts t e is.
          let at = newest-head c.args.asid c.args.page w.first _ _ w.items ts t c.self.invariant.chained (c.self.view_is ∙ e) is in
          let place : c.end-end.result - 1 - w.first ≡ length ts = omega (arith, at.0, c.end-end.ensures) in
          let same : c.get-newest.result ≡ t = c.get-newest.ensures.value t ∙ ap (λ i. get_or w.items i t) place ∙ at.2 in
          ap (λ (u : Translation). Some (u.frame, u.attrs)) same;
    }

pub returns-else-is_for-clause-newest : goal.returns-else-is_for-clause-newest
returns-else-is_for-clause-newest c = λ ts t e is.
    let w = c.self.inside.translations in
    let at = newest-head c.args.asid c.args.page w.first _ _ w.items ts t c.self.invariant.chained (c.self.view_is ∙ e) is in
    let place : c.end-end.result - 1 - w.first ≡ length ts = omega (arith, at.0, c.end-end.ensures) in
    let same : c.get-newest.result ≡ t = c.get-newest.ensures.value t ∙ ap (λ i. get_or w.items i t) place ∙ at.2 in
    let yes = ap (is_for c.args.asid c.args.page) same ∙ is in
    let no = sym c.is_for.ensures ∙ c.if-is_for.false in
    let clash = sym yes ∙ no in
    cc
