use Rattle.std.proofs.Common.{◌≡◌, ◌∙◌, ap, sym, subst, None, arith}
use Rattle.std.specs.FinMap.{get, insert}
use Rattle.mte_translate.specs.Tables.{is_valid, pages_of, IsTable}
use Rattle.mte_translate.proofs.PageLemmas.{page-invalid}
use Rattle.mte_translate.proofs.TableLemmas.{keeps-then, missing-one, leaves-few, len-few, pages-mapped, table-mapped, once-insert}
use Rattle.mte_translate.proofs.TreeUses.{tree-of}
use Rattle.mte_translate.proofs.table.Table.map.Goals as goal

pub overflow_add-self : goal.overflow_add-self
overflow_add-self c =
    let few = leaves-few _ _ _ (subst (IsTable c.args.pool.now c.args.quota.now) (sym c.self.view_is) c.requires.table) in
    omega (arith, few, missing-one c.args.pool.now c.self.inside.root c.args.page, c.want_leaf.ensures.added)

pub overflow_add-self-2 : goal.overflow_add-self-2
overflow_add-self-2 c =
    let few = len-few _ _ _ (subst (IsTable c.args.pool.now c.args.quota.now) (sym c.self.view_is) c.requires.table) in
    omega (arith, few)

pub put_page-requires-clause-absent : goal.put_page-requires-clause-absent
put_page-requires-clause-absent c =
    ap is_valid (c.want_leaf.ensures.walks c.args.page c.requires.low)
    ∙ page-invalid _ _ _ c.requires.low (subst (λ t. get (pages_of c.args.pool.now t.frame) c.args.page ≡ None) (sym c.self.view_is) c.requires.unmapped)

pub returns-clause-table : goal.returns-clause-table
returns-clause-table c =
    let h = subst (IsTable c.args.pool.now c.args.quota.now) (sym c.self.view_is) c.requires.table in
    let want = c.want_leaf.ensures in
    let put = c.put_page.ensures in
    table-mapped _ c.want_leaf.new.pool _ _ _ _ _ _ _ _ _ _ h c.requires.low (subst (λ t. get (pages_of c.args.pool.now t.frame) c.args.page ≡ None) (sym c.self.view_is) c.requires.unmapped) put.attrs
    want.walks want.rest.slots want.added put.tree put.walk put.walks put.rest.slots

inserted : (c : goal.After-self-2-1) → pages_of c.put_page.new.pool c.self.inside.root ≡ insert (pages_of c.args.pool.now c.args.self.now.frame) c.args.page (c.args.frame, c.args.attrs)
inserted c =
    let h = subst (IsTable c.args.pool.now c.args.quota.now) (sym c.self.view_is) c.requires.table in
    let want = c.want_leaf.ensures in
    let put = c.put_page.ensures in
    let pages = pages-mapped _ c.want_leaf.new.pool _ _ _ _ _ _ _ _ _ _ h c.requires.low (subst (λ t. get (pages_of c.args.pool.now t.frame) c.args.page ≡ None) (sym c.self.view_is) c.requires.unmapped) put.attrs
    want.walks want.rest.slots want.added put.tree put.walk put.walks put.rest.slots in
    pages ∙ ap (λ t. insert (pages_of c.args.pool.now t.frame) c.args.page (c.args.frame, c.args.attrs)) c.self.view_is

pub returns-clause-pages : goal.returns-clause-pages
returns-clause-pages c = inserted c

pub returns-clause-once : goal.returns-clause-once
returns-clause-once c = λ never once. once-insert _ _ _ _ _ (inserted c) never once

pub returns-clause-others : goal.returns-clause-others
returns-clause-others c = let want = c.want_leaf.ensures in let put = c.put_page.ensures in keeps-then _ _ _ _ _ want.quota want.rest.others put.rest.others

pub want_leaf-requires-clause-page : goal.want_leaf-requires-clause-page
want_leaf-requires-clause-page c =
    let h = subst (IsTable c.args.pool.now c.args.quota.now) (sym c.self.view_is) c.requires.table in
    record { tree = tree-of c.args.pool.now c.args.quota.now c.self.inside.root h.tree; low = c.requires.low }
