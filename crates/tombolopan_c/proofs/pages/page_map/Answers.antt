use Rattle.std.proofs.Common.{◌≡◌, ◌∙◌, List, ap, sym, subst, map}
use Rattle.std.proofs.lemmas.Result.{IfOk-weaker}
use Rattle.mte_flat.specs.declared.mapped.MappedPage.{MappedPage}
use Rattle.tombolopan_c.specs.Pages.{page_told, IsPageMap}
use Rattle.tombolopan_c.proofs.PageMaps.{is_map}
use Rattle.tombolopan_c.proofs.pages.page_map.Goals as goal

pub returns : goal.returns
returns c =
    let m = c.args.memory.now in
    let ps = c.in_ok-pages.pages.items in
    IfOk-weaker c.told_pages.result (λ entries. entries.items ≡ map page_told c.as_slice.result.now) (λ entries. IsPageMap m entries.items)
    (λ entries e. subst (IsPageMap m) (sym (e ∙ ap (map page_told) c.as_slice.ensures.value)) (is_map m ps c.in_ok-pages.ensures.each c.in_ok-pages.ensures.once))
    c.told_pages.ensures
