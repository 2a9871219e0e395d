use Rattle.std.proofs.Common.{sym, subst, ap, ◌∙◌, length}
use Rattle.mte_tags.specs.Memory.{Memory}
use Rattle.mte_tags.specs.Accesses.{AreMapped, addresses, bytes_at}
use Rattle.mte_tags.proofs.AddressLists.{none_from_ok}
use Rattle.mte_tags.proofs.ModeLaws.{AreMapped-from_access, bytes_at-after_access}
use Rattle.mte_tags.proofs.SameAccess.{read_as}
use Rattle.mte_tags.proofs.by_page.read_across_pages.Goals as goal

pub copy_out-requires-clause-mapped : goal.copy_out-requires-clause-mapped
copy_out-requires-clause-mapped g c =
    let places = addresses c.plain-at.result (length c.args.buffer.now) in
    subst (λ (m : Memory). AreMapped m places) (sym c.in_ok-check_in_mode.ensures.memory) (AreMapped-from_access _ _ places (none_from_ok _ _ c.in_ok-check_in_mode.ensures.answer))

pub returns-clause-read : goal.returns-clause-read
returns-clause-read g c =
    let places = addresses c.plain-at.result (length c.args.buffer.now) in
    read_as _ _ _ _ _ _ c.reading.ensures c.plain-at.ensures _ _ _ record {
      answer = c.in_ok-check_in_mode.ensures.answer;
      bytes = c.copy_out.ensures.bytes ∙ ap (λ m. bytes_at m places) c.in_ok-check_in_mode.ensures.memory ∙ bytes_at-after_access _ _ places places;
      memory = c.copy_out.ensures.memory ∙ c.in_ok-check_in_mode.ensures.memory;
    }
