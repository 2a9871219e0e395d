use Rattle.std.proofs.Common.{◌≡◌, ◌∙◌, ◌+◌, ◌-◌, ◌<◌, ◌≤◌, ℕ, refl, sym, ap, not, length, arith}
use Rattle.std.specs.List.{remove}
use Rattle.mte_translate.specs.declared.translation.Translation.{Translation}
use Rattle.mte_translate.specs.Translations.{is_for, lookup, without}
use Rattle.mte_translate.specs.Whole.{hashes_of}
use Rattle.mte_translate.proofs.TlbLemmas.{others-all, others-of, one-each-filter}
use Rattle.mte_translate.proofs.ChainLemmas.{chained-same, hashes-remove, hashes_long}
use Rattle.mte_translate.proofs.tlb.Tlb.forget.Goals as goal

pub returns-in_default : goal.returns-in_default
returns-in_default c =
    sym (others-all c.args.asid c.args.page c.args.self.now (ap (lookup c.args.asid c.args.page) (sym c.self.view_is) ∙ c.in_default.ensures.none refl))

without_is : (c : goal.After-remove-2) → without c.args.asid c.args.page c.self.inside.translations.items ≡ remove c.self.inside.translations.items (c.in-Some.place - c.self.inside.translations.first)
without_is c =
    let w = c.self.inside.translations in
    let found = c.in-Some.ensures.found in
    let none : Translation = record { asid = 0; page = 0; frame = 0; attrs = record { 0 = 0 } } in
    let inside : c.in-Some.place - w.first < length w.items = omega (arith, found.from, found.within) in
    others-of (is_for c.args.asid c.args.page) w.items _ none (c.self.invariant.one_each c.args.asid c.args.page) inside (found.is none)

pub invariant_of-self : goal.invariant_of-self
invariant_of-self c =
    let w = c.self.inside.translations in
    let i : ℕ = c.in-Some.place - w.first in
    let place : w.first + i ≡ c.in-Some.place = omega (arith, c.in-Some.ensures.found.from) in
    let removed = c.remove-2.ensures.items i place in
    let long = hashes_long w.items in
    let last : w.first + length (hashes_of w.items) ≡ c.end.result = omega (arith, long, c.end.ensures.end) in
    let few : length (hashes_of w.items) ≤ 64 = omega (arith, long, c.end.ensures.few) in
    record {
      one_each = one-each-filter (λ t. not (is_for c.args.asid c.args.page t)) _ _ c.self.invariant.one_each (removed ∙ sym (without_is c));
      chained = chained-same _ _ _ _ _ _ (c.remove.ensures w.first i (hashes_of w.items) place last few c.self.invariant.chained) c.remove-2.ensures.first (hashes-remove _ _ i removed);
    }

pub returns : goal.returns
returns c =
    let w = c.self.inside.translations in
    let place : w.first + (c.in-Some.place - w.first) ≡ c.in-Some.place = omega (arith, c.in-Some.ensures.found.from) in
    c.remove-2.ensures.items _ place ∙ sym (without_is c) ∙ ap (without c.args.asid c.args.page) c.self.view_is
