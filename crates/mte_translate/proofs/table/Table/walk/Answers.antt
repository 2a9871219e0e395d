use Rattle.std.proofs.Common.{◌≡◌, ◌∙◌, ap, sym, subst, false, None, Some}
use Rattle.std.specs.FinMap.{get}
use Rattle.mte_translate.specs.Tables.{is_valid, has_leaf, pages_of}
use Rattle.mte_translate.proofs.TreeLemmas.{walk-none}
use Rattle.mte_translate.proofs.PageLemmas.{get-page_past, page-gone}
use Rattle.mte_translate.proofs.TableLemmas.{walk-read, page-read}
use Rattle.mte_translate.proofs.table.Table.walk.Goals as goal

pub returns-then-page-ge-TABLE_PAGES : goal.returns-then-page-ge-TABLE_PAGES
returns-then-page-ge-TABLE_PAGES c = sym (get-page_past _ _ _ c.if-page-ge-TABLE_PAGES.true)

pub returns-then-not-is_valid : goal.returns-then-not-is_valid
returns-then-not-is_valid c =
    let gone : has_leaf c.args.pool.now c.self.inside.root c.args.page ≡ false = ap is_valid (sym c.entry.ensures) ∙ sym c.is_valid.ensures ∙ c.if-not-is_valid.true in
    subst (λ t. None ≡ get (pages_of c.args.pool.now t.frame) c.args.page) c.self.view_is (sym (page-gone _ c.self.inside.root c.args.page c.if-page-ge-TABLE_PAGES.false (ap is_valid (walk-none _ _ _ gone))))

pub returns-then-not-is_valid-2 : goal.returns-then-not-is_valid-2
returns-then-not-is_valid-2 c =
    let walk = walk-read c.args.pool.now c.self.inside.root c.args.page c.entry.result c.leaf.result c.entry-2.result c.entry.ensures (sym c.is_valid.ensures ∙ c.if-not-is_valid.false) c.leaf.ensures c.entry-2.ensures in
    subst (λ t. None ≡ get (pages_of c.args.pool.now t.frame) c.args.page) c.self.view_is (sym (page-gone _ c.self.inside.root c.args.page c.if-page-ge-TABLE_PAGES.false (ap is_valid walk ∙ sym c.is_valid-2.ensures ∙ c.if-not-is_valid-2.true)))

pub returns : goal.returns
returns c =
    let walk = walk-read c.args.pool.now c.self.inside.root c.args.page c.entry.result c.leaf.result c.entry-2.result c.entry.ensures (sym c.is_valid.ensures ∙ c.if-not-is_valid.false) c.leaf.ensures c.entry-2.ensures in
    subst (λ t. Some (c.frame.result, c.attrs.result) ≡ get (pages_of c.args.pool.now t.frame) c.args.page) c.self.view_is
    (page-read c.args.pool.now c.self.inside.root c.args.page c.entry-2.result c.frame.result c.attrs.result c.if-page-ge-TABLE_PAGES.false walk (sym c.is_valid-2.ensures ∙ c.if-not-is_valid-2.false) c.frame.ensures c.attrs.ensures)
