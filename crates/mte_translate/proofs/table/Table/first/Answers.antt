use Rattle.std.proofs.Common.{◌≡◌, ◌∙◌, ◌+◌, ◌*◌, ◌<◌, ℕ, ap, sym, subst, refl, false}
use Rattle.mte_translate.specs.Tables.{entry_at, is_valid, leaf_in, pages_of, IsTable, IsFirst}
use Rattle.mte_translate.proofs.TableLemmas.{len-none, leaf-used, first-found}
use Rattle.mte_translate.proofs.table.Table.first.Goals as goal

pub returns-in_err-slot-clause-none : goal.returns-in_err-slot-clause-none
returns-in_err-slot-clause-none c = λ _.
    len-none _ _ _ c.requires.1 (subst (λ t. (j : ℕ) → j < 512 → is_valid (entry_at c.args.pool.now t.frame j) ≡ false) c.self.view_is (c.in_err-slot.ensures.none refl))

pub returns-in_err-index-clause-none : goal.returns-in_err-index-clause-none
returns-in_err-index-clause-none c = λ _.
    let slot = c.in_ok-slot.ensures.some in
    let h = subst (IsTable c.args.pool.now c.requires.0) (sym c.self.view_is) c.requires.1 in
    absurd (leaf-used _ _ _ c.in_ok-slot.slot c.leaf-leaf.result h slot.0 slot.1 (c.leaf-leaf.ensures ∙ ap leaf_in c.entry.ensures) (c.in_err-index.ensures.none refl))

pub returns-clause-some : goal.returns-clause-some
returns-clause-some c =
    let slot = c.in_ok-slot.ensures in
    let index = c.in_ok-index.ensures in
    subst (λ t. IsFirst (pages_of c.args.pool.now t.frame) (512 * c.in_ok-slot.slot + c.in_ok-index.index)) c.self.view_is
    (first-found c.args.pool.now c.self.inside.root c.in_ok-slot.slot c.leaf-leaf.result c.in_ok-index.index slot.some.0 slot.some.1 (c.leaf-leaf.ensures ∙ ap leaf_in c.entry.ensures) index.some.0 index.some.1 slot.least index.least)
