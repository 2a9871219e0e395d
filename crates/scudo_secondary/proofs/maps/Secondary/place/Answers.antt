use Rattle.std.proofs.Common.{ap, subst, ◌∙◌}
use Rattle.scudo_secondary.specs.Mappings.{SecondaryState, AreMappings, place_of}
use Rattle.scudo_secondary.proofs.PlaceLemmas.{place_of-fits, place_of-least, place_of-none}
use Rattle.scudo_secondary.proofs.maps.Secondary.place.Goals as goal

pub returns-clause-fits : goal.returns-clause-fits
returns-clause-fits c =
    place_of-fits c.args.self.now.mappings c.args.pages _
    (c.first_gap.ensures ∙ ap (λ ms. place_of ms c.args.pages) c.deref.ensures.value ∙ ap (λ (s : SecondaryState). place_of s.mappings c.args.pages) c.self.view_is)

pub returns-clause-least : goal.returns-clause-least
returns-clause-least c =
    place_of-least c.args.self.now.mappings c.args.pages _ (subst (λ (s : SecondaryState). AreMappings s.mappings) c.self.view_is c.self.invariant.mappings)
    (c.first_gap.ensures ∙ ap (λ ms. place_of ms c.args.pages) c.deref.ensures.value ∙ ap (λ (s : SecondaryState). place_of s.mappings c.args.pages) c.self.view_is)

pub returns-clause-none : goal.returns-clause-none
returns-clause-none c =
    place_of-none c.args.self.now.mappings c.args.pages _ (subst (λ (s : SecondaryState). AreMappings s.mappings) c.self.view_is c.self.invariant.mappings)
    (c.first_gap.ensures ∙ ap (λ ms. place_of ms c.args.pages) c.deref.ensures.value ∙ ap (λ (s : SecondaryState). place_of s.mappings c.args.pages) c.self.view_is)
