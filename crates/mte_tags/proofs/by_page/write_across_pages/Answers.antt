use Rattle.std.proofs.Common.{sym, subst, length}
use Rattle.mte_tags.specs.Memory.{Memory}
use Rattle.mte_tags.specs.Accesses.{AreMapped, addresses}
use Rattle.mte_tags.proofs.AddressLists.{none_from_ok}
use Rattle.mte_tags.proofs.ModeLaws.{AreMapped-from_access}
use Rattle.mte_tags.proofs.by_page.write_across_pages.Goals as goal

pub replace_bytes-requires-clause-mapped : goal.replace_bytes-requires-clause-mapped
replace_bytes-requires-clause-mapped g c =
    let places = addresses c.plain-at.result (length c.args.bytes.now) in
    subst (λ (m : Memory). AreMapped m places) (sym c.in_ok-check_in_mode.ensures.memory) (AreMapped-from_access _ _ places (none_from_ok _ _ c.in_ok-check_in_mode.ensures.answer))
