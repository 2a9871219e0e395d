use Rattle.std.proofs.Common.{◌∙◌, sym, ap}
use Rattle.mte_tags.specs.Memory.{attrs_at, attrs_cases, has, has_cases, page_has}
use Rattle.mte_tags.proofs.within_page.code_has_attrs.Goals as goal

pub returns-in-None-clause-answer : goal.returns-in-None-clause-answer
unfolding page_has attrs_at
returns-in-None-clause-answer g c = sym (ap (λ o. has_cases (attrs_cases o) c.args.attrs.0) c.in-None.ensures.page)

pub returns-in-Some-clause-answer : goal.returns-in-Some-clause-answer
unfolding page_has attrs_at
returns-in-Some-clause-answer g c =
    c.contains.ensures
    ∙ ap (λ a. has a c.args.attrs.0) c.attrs.ensures
    ∙ sym (ap (λ o. has_cases (attrs_cases o) c.args.attrs.0) c.in-Some.ensures.page)
