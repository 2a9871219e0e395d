use Rattle.scudo_secondary.proofs.MappingLemmas.{none_ordered, none_counted}
use Rattle.scudo_secondary.proofs.maps.Secondary.new.Goals as goal

pub invariant_of-result : goal.invariant_of-result
invariant_of-result c = record {
  mappings = none_ordered _ c.in_ok-mappings.ensures.items;
  room = none_counted _ _ c.in_ok-mappings.ensures.items;
}
