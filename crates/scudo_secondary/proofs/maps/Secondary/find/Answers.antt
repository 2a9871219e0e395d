use Rattle.std.proofs.Common.{ap, ◌∙◌}
use Rattle.scudo_secondary.specs.Mappings.{SecondaryState, mapping_of}
use Rattle.scudo_secondary.proofs.MappingLemmas.{found}
use Rattle.scudo_secondary.proofs.maps.Secondary.find.Goals as goal

pub returns-clause-mapping : goal.returns-clause-mapping
returns-clause-mapping c =
    found c.self.inside.mappings.items c.deref.result.now c.args.user c.in_ok-i.i _ c.deref.ensures.value c.self.invariant.mappings c.in_ok-i.ensures.some c.index.ensures
    ∙ ap (λ (s : SecondaryState). mapping_of s.mappings c.args.user) c.self.view_is
