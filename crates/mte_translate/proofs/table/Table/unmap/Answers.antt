use Rattle.std.proofs.Common.{◌≡◌, ◌∙◌, ap, sym, subst, true, arith}
use Rattle.std.specs.FinMap.{remove}
use Rattle.mte_frames.proofs.Keeps.{keeps_on}
use Rattle.mte_translate.specs.Tables.{is_valid, walk_at, pages_of, IsApart, IsTable, Root}
use Rattle.mte_translate.proofs.PageLemmas.{page-low}
use Rattle.mte_translate.proofs.TableLemmas.{page-mapped, len-some, pages-none, pages-unmapped, leaves-unmapped, table-unmapped, once-remove, never-after}
use Rattle.mte_translate.proofs.KeptTables.{page-frame}
use Rattle.mte_translate.proofs.TreeUses.{tree-of}
use Rattle.mte_translate.proofs.table.Table.unmap.Goals as goal

pub returns-in_err-frame-clause-pages : goal.returns-in_err-frame-clause-pages
returns-in_err-frame-clause-pages c = pages-none _ _ _ (sym c.walk.ensures ∙ c.in_err-frame.was)

pub trim_leaf-requires-clause-page : goal.trim_leaf-requires-clause-page
trim_leaf-requires-clause-page c = record { tree = c.take_page.ensures.tree; low = page-low c.args.pool.now c.args.self.now.frame c.args.page _ (sym c.walk.ensures ∙ c.in_ok-frame.was) }

pub take_page-requires-clause-there : goal.take_page-requires-clause-there
take_page-requires-clause-there c = subst (λ t. is_valid (walk_at c.args.pool.now t.frame c.args.page) ≡ true) (sym c.self.view_is) (page-mapped _ _ _ _ (sym c.walk.ensures ∙ c.in_ok-frame.was))

pub overflow_sub-self : goal.overflow_sub-self
overflow_sub-self c =
    let h = subst (IsTable c.args.pool.now c.args.quota.now) (sym c.self.view_is) c.requires in
    let found = sym c.walk.ensures ∙ c.in_ok-frame.was in
    let low = page-low _ _ _ _ found in
    let mapped = subst (λ t. is_valid (walk_at c.args.pool.now t.frame c.args.page) ≡ true) (sym c.self.view_is) (page-mapped _ _ _ _ found) in
    let take = c.take_page.ensures in
    let trim = c.trim_leaf.ensures in
    omega (arith, leaves-unmapped _ c.take_page.new.pool c.trim_leaf.new.pool _ _ _ _ _ _ _ h low mapped take.walk take.walks take.rest.slots trim.tree trim.tight trim.walks trim.rest.slots trim.dropped)

pub overflow_sub-self-2 : goal.overflow_sub-self-2
overflow_sub-self-2 c = let some = len-some _ _ _ _ _ c.requires (sym c.walk.ensures ∙ c.in_ok-frame.was) in omega (arith, some, ap (λ (t : Root). t.len) c.self.view_is)

pub returns-clause-table : goal.returns-clause-table
returns-clause-table c =
    let h = subst (IsTable c.args.pool.now c.args.quota.now) (sym c.self.view_is) c.requires in
    let found = sym c.walk.ensures ∙ c.in_ok-frame.was in
    let low = page-low _ _ _ _ found in
    let mapped = subst (λ t. is_valid (walk_at c.args.pool.now t.frame c.args.page) ≡ true) (sym c.self.view_is) (page-mapped _ _ _ _ found) in
    let take = c.take_page.ensures in
    let trim = c.trim_leaf.ensures in
    table-unmapped _ c.take_page.new.pool c.trim_leaf.new.pool _ _ _ _ _ _ _ h low mapped take.walk take.walks take.rest.slots trim.tree trim.tight trim.walks trim.rest.slots trim.dropped

removed : (c : goal.After-self-2-1) → pages_of c.trim_leaf.new.pool c.self.inside.root ≡ remove (pages_of c.args.pool.now c.args.self.now.frame) c.args.page
removed c =
    let h = subst (IsTable c.args.pool.now c.args.quota.now) (sym c.self.view_is) c.requires in
    let found = sym c.walk.ensures ∙ c.in_ok-frame.was in
    let low = page-low _ _ _ _ found in
    let mapped = subst (λ t. is_valid (walk_at c.args.pool.now t.frame c.args.page) ≡ true) (sym c.self.view_is) (page-mapped _ _ _ _ found) in
    let take = c.take_page.ensures in
    let trim = c.trim_leaf.ensures in
    let pages = pages-unmapped _ c.take_page.new.pool c.trim_leaf.new.pool _ _ _ _ _ _ _ h low mapped take.walk take.walks take.rest.slots trim.tree trim.tight trim.walks trim.rest.slots trim.dropped in
    pages ∙ ap (λ t. remove (pages_of c.args.pool.now t.frame) c.args.page) c.self.view_is

pub returns-clause-pages : goal.returns-clause-pages
returns-clause-pages c = removed c

pub returns-clause-once : goal.returns-clause-once
returns-clause-once c = λ once. once-remove _ _ _ (removed c) once

pub returns-clause-never : goal.returns-clause-never
returns-clause-never c = λ once. never-after _ _ _ _ _ (removed c) (sym c.walk.ensures ∙ c.in_ok-frame.was) once

pub returns-clause-free : goal.returns-clause-free
returns-clause-free c =
    let frame = page-frame _ _ _ _ _ _ c.requires (sym c.walk.ensures ∙ c.in_ok-frame.was) in
    let apart = subst (λ t. IsApart c.args.pool.now t.frame c.in_ok-frame.frame) (sym c.self.view_is) frame.2 in
    let take = c.take_page.ensures.rest.kept in
    let trim = c.trim_leaf.ensures.rest.kept in
    let apart_2 = take.apart _ frame.1 apart in
    let out_2 = take.out _ frame.1 apart in
    (trim.out _ out_2 apart_2, trim.apart _ out_2 apart_2)

pub returns-clause-others : goal.returns-clause-others
returns-clause-others c = keeps_on _ _ _ _ c.take_page.ensures.rest.others c.trim_leaf.ensures.rest.others

pub take_page-requires-clause-page : goal.take_page-requires-clause-page
take_page-requires-clause-page c =
    let h = subst (IsTable c.args.pool.now c.args.quota.now) (sym c.self.view_is) c.requires in
    record { tree = tree-of c.args.pool.now c.args.quota.now c.self.inside.root h.tree; low = page-low c.args.pool.now c.args.self.now.frame c.args.page _ (sym c.walk.ensures ∙ c.in_ok-frame.was) }
