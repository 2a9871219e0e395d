use Rattle.std.proofs.Common.{◌≡◌, ◌+◌, ◌≤◌, true, sym, subst, arith}
use Rattle.scudo_secondary.specs.Mappings.{SecondaryState, AreMappings, pages_of, is_place}
use Rattle.scudo_secondary.proofs.MappingLemmas.{more_room, less_room}
use Rattle.scudo_secondary.proofs.PlaceLemmas.{AreMappings-added}
use Rattle.scudo_secondary.proofs.maps.Secondary.add.Goals as goal

pub insert_in_order-requires-clause-room : goal.insert_in_order-requires-clause-room
insert_in_order-requires-clause-room c =
    let room = subst (λ (s : SecondaryState). pages_of s.mappings + c.args.mapping.pages ≤ s.limit) (sym c.self.view_is) c.requires.room in
    let first = c.requires.user.first in
    let last = c.requires.user.last in
    more_room c.self.inside.mappings.items _ _ c.args.mapping.pages c.self.invariant.mappings c.self.inside.mappings.ok.0 (omega arith) room

pub invariant_of-self : goal.invariant_of-self
invariant_of-self c =
    let ms = c.self.inside.mappings.items in
    let room = subst (λ (s : SecondaryState). pages_of s.mappings + c.args.mapping.pages ≤ s.limit) (sym c.self.view_is) c.requires.room in
    let first = c.requires.user.first in
    let last = c.requires.user.last in
    let place = subst (λ (s : SecondaryState). is_place s.mappings c.args.mapping.pages c.args.mapping.start ≡ true) (sym c.self.view_is) c.requires.place in
    record {
      mappings = subst AreMappings (sym c.insert_in_order.ensures.items) (AreMappings-added ms c.args.mapping.start c.args.mapping.pages c.args.mapping.user c.self.invariant.mappings (omega arith) place c.requires.user.first c.requires.user.last);
      room = less_room ms _ _ _ _ c.insert_in_order.ensures.items room c.insert_in_order.ensures.capacity;
    }
