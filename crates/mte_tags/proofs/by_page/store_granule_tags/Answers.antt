use Rattle.std.proofs.Common.{sym, subst}
use Rattle.mte_tags.specs.Memory.{Memory}
use Rattle.mte_tags.specs.Accesses.{AreMapped, granules}
use Rattle.mte_tags.proofs.AddressLists.{AreMapped-from_first_fault, none_from_ok}
use Rattle.mte_tags.proofs.by_page.store_granule_tags.Goals as goal

pub tag_granules-requires-clause-mapped : goal.tag_granules-requires-clause-mapped
tag_granules-requires-clause-mapped g c =
    let places = granules c.plain-at.result c.args.count in
    subst (λ (m : Memory). AreMapped m places) (sym c.in_ok-check_granules.ensures.memory) (AreMapped-from_first_fault _ _ places (none_from_ok _ _ c.in_ok-check_granules.ensures.answer))
