use Rattle.std.proofs.Common.{◌∙◌}
use Rattle.tombolopan_c.proofs.Places.{found_place}
use Rattle.tombolopan_c.proofs.find.is_mapped.Goals as goal

pub returns-clause-page : goal.returns-clause-page
returns-clause-page c = λ s.
    c.is_some.ensures ∙ found_place s c.args.pages.now c.args.number c.find.result c.find.ensures.some c.find.ensures.none
