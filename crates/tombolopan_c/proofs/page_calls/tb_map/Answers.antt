use Rattle.std.proofs.Common.{◌∙◌, ap, refl}
use Rattle.mte_tags.specs.Memory.{with_page}
use Rattle.tombolopan_c.specs.LentPages.{lent_memory}
use Rattle.tombolopan_c.proofs.Changes.{lent_filled}
use Rattle.tombolopan_c.proofs.page_calls.tb_map.Goals as goal

pub returns-clause-memory : goal.returns-clause-memory
returns-clause-memory c = λ s.
    lent_filled s c.args.pages.now c.in-Some.i c.args.number c.fill_new.new.self c.in-Some.ensures.some (c.if-is_mapped.ensures.none refl) c.fill_new.ensures.place
    ∙ ap (with_page (lent_memory s c.args.pages.now) c.args.number) c.fill_new.ensures.page
