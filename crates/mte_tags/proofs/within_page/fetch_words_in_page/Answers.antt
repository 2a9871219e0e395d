use Rattle.std.proofs.Common.{◌≡◌, ◌≤◌, ◌∙◌, ◌&&◌, ◌==◌, ◌%◌, Bool, true, false, None, Ok, refl, sym, ap, arith, eq-eqb}
use Rattle.std.specs.Prelude.{nat_le}
use Rattle.std.proofs.lemmas.Bool.{le-leb}
use Rattle.mte_tags.specs.Memory.{has}
use Rattle.mte_tags.proofs.FoundPages.{found_has, page_fetches}
use Rattle.mte_tags.proofs.within_page.fetch_words_in_page.Goals as goal

last_false : (a b c : Bool) → c ≡ false → false ≡ (a && b && c)
last_false true true c e = sym e
last_false true false c e = refl
last_false false true c e = refl
last_false false false c e = refl

all_true : (a b c : Bool) → a ≡ true → b ≡ true → c ≡ true → true ≡ (a && b && c)
all_true true true true e f g = refl
all_true true true false e f g = cc
all_true true false c e f g = cc
all_true false b c e f g = cc

pub returns-in_default-clause-answer : goal.returns-in_default-clause-answer
returns-in_default-clause-answer g c =
    let m = g.S.PageStore.memory c.args.store.now in
    last_false (c.args.pc % 4 == 0) (nat_le (c.args.pc % 4096) 4032) _ (found_has m None c.args.pc c.plain-at.result 4 c.in_default.ensures.page c.plain-at.ensures)

pub returns-then-not-contains-clause-answer : goal.returns-then-not-contains-clause-answer
returns-then-not-contains-clause-answer g c =
    let m = g.S.PageStore.memory c.args.store.now in
    last_false (c.args.pc % 4 == 0) (nat_le (c.args.pc % 4096) 4032) _ (
    found_has m _ c.args.pc c.plain-at.result 4 c.in-Some.ensures.page c.plain-at.ensures
    ∙ ap (λ k. has k 4) (sym c.attrs.ensures) ∙ sym c.contains.ensures ∙ c.if-not-contains.true)

pub returns-clause-answer : goal.returns-clause-answer
returns-clause-answer g c =
    let m = g.S.PageStore.memory c.args.store.now in
    let aligned : c.args.pc % 4 ≡ 0 = omega arith in
    let low : c.args.pc % 4096 ≤ 4032 = omega arith in
    all_true _ _ _ (eq-eqb _ _ aligned) (le-leb _ _ low) (
    found_has m _ c.args.pc c.plain-at.result 4 c.in-Some.ensures.page c.plain-at.ensures
    ∙ ap (λ k. has k 4) (sym c.attrs.ensures) ∙ sym c.contains.ensures ∙ c.if-not-contains.false)

pub returns-clause-words : goal.returns-clause-words
returns-clause-words g c t i b =
    let m = g.S.PageStore.memory c.args.store.now in
    let aligned : c.args.pc % 4 ≡ 0 = omega arith in
    let low : c.args.pc % 4096 ≤ 4032 = omega arith in
    page_fetches m _ c.args.pc c.plain-at.result i c.in-Some.ensures.page aligned low c.plain-at.ensures
    (ap (λ k. has k 4) (sym c.attrs.ensures) ∙ sym c.contains.ensures ∙ c.if-not-contains.false)
    c.words_in_page.ensures.long b
    ∙ ap (λ w. Ok w) (sym (c.words_in_page.ensures.words i b))
