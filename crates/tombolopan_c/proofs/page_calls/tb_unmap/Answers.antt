use Rattle.std.proofs.Common.{◌≡◌, ◌<◌, ◌∙◌, length, length-set, get_or, set, sym, refl, arith}
use Rattle.std.proofs.lemmas.List.{set-get_or}
use Rattle.tombolopan_c.specs.LentPages.{is_place_of}
use Rattle.tombolopan_c.specs.LentPlaces.{no_page}
use Rattle.tombolopan_c.proofs.Changes.{lent_freed, freed_none, kept_none, freed_others}
use Rattle.tombolopan_c.proofs.page_calls.tb_unmap.Goals as goal
use Rattle.tombolopan_c.proofs.page_calls.tb_unmap.Goals.{then-is_of, else-is_of}

pub loop-page-preserved : goal.loop-page-preserved
loop-page-preserved c =
    let pages = c.loop-page.pages in
    let i = c.loop-page.page-index in
    let q = c.args.number in
    let at : i < length pages = omega (arith, c.loop-page-test.true) in
    let inv = c.loop-page.invariant in
    let is : c.is_of.result ≡ is_place_of (get_or pages i no_page) q = c.is_of.ensures in
    let same : set pages i (get_or pages i no_page) ≡ pages = set-get_or pages i no_page in
    elim c.if-is_of.branch [
      | then-is_of w ↦
          rw w.pages-is (length-set pages i _ ∙ inv.0, freed_none pages i q _ at inv.1 refl, freed_others pages c.args.pages.now i q no_page _ at inv.2 (sym is ∙ w.if-is_of.true) refl)
      | else-is_of w ↦ rw (w.pages-is ∙ same) (inv.0, kept_none pages i q no_page at inv.1 (sym is ∙ w.if-is_of.false), inv.2)
    ]

pub returns-clause-memory : goal.returns-clause-memory
returns-clause-memory c = λ s. lent_freed s c.args.pages.now c.loop-page.pages c.args.number c.loop-page.invariant.0 (λ k d l. c.loop-page.invariant.1 k d (omega arith)) c.loop-page.invariant.2
