use Rattle.std.proofs.Common.{sym, subst, not, ◌==◌}
use Rattle.scudo_secondary.specs.Mappings.{AreMappings}
use Rattle.scudo_secondary.proofs.MappingLemmas.{AreMappings-filter, kept_room}
use Rattle.scudo_secondary.proofs.maps.Secondary.remove.Goals as goal

pub invariant_of-self : goal.invariant_of-self
invariant_of-self c = record {
  mappings = subst AreMappings (sym c.remove_user.ensures.items) (AreMappings-filter _ c.self.inside.mappings.items c.self.invariant.mappings);
  room = kept_room (λ m. not (m.user == c.args.user)) c.self.inside.mappings.items _ _ _ c.remove_user.ensures.items c.self.invariant.room c.remove_user.ensures.capacity;
}
