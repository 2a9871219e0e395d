use Rattle.std.proofs.Common.{◌∙◌, ◌*◌, ◌%◌, ℕ, map, replicate, sym, ap, refl, arith}
use Rattle.tombolopan_c.specs.LentPages.{page_of}
use Rattle.mte_tags.specs.Runs.{with_bytes_run, with_granule_tags}
use Rattle.mte_tags.proofs.PageRuns.{filled, filled_spliced}
use Rattle.mte_tags.proofs.TagRuns.{page_parts}
use Rattle.tombolopan_c.proofs.Found.{map-with-bytes-run, map-replicate}
use Rattle.tombolopan_c.proofs.lent_page.LentPage.retag.Goals as goal

pub returns-then-zero-clause-holds : goal.returns-then-zero-clause-holds
returns-then-zero-clause-holds c =
    let page = c.args.self.now in
    let f = c.args.first in
    let n = c.args.count in
    let t = c.args.tag in
    let low = λ (x : ℕ). x % 16 in
    let tags =
    ap (map low) (filled_spliced page.tags c.fill.new.self f n t (omega arith) (c.fill.ensures.after (λ y e. e)))
    ∙ map-with-bytes-run low (replicate n t) page.tags f
    ∙ ap (with_bytes_run (map low page.tags) f) (map-replicate n t c.requires.tag) in
    let bytes = filled page.bytes c.fill-then-zero.new.self (16 * f) (16 * n) 0 (omega arith) (c.fill-then-zero.ensures.after (λ y e. e)) in
    page_parts _ _ _ bytes tags ∙ ap (with_granule_tags (page_of page) f n t) (sym c.if-zero.true)

pub returns-else-zero-clause-holds : goal.returns-else-zero-clause-holds
returns-else-zero-clause-holds c =
    let page = c.args.self.now in
    let f = c.args.first in
    let n = c.args.count in
    let t = c.args.tag in
    let low = λ (x : ℕ). x % 16 in
    let tags =
    ap (map low) (filled_spliced page.tags c.fill.new.self f n t (omega arith) (c.fill.ensures.after (λ y e. e)))
    ∙ map-with-bytes-run low (replicate n t) page.tags f
    ∙ ap (with_bytes_run (map low page.tags) f) (map-replicate n t c.requires.tag) in
    page_parts _ _ _ refl tags ∙ ap (with_granule_tags (page_of page) f n t) (sym c.if-zero.false)
