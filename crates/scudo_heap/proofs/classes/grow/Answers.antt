use Rattle.std.proofs.Common.{◌≡◌, Result, Ok, Err, ◌+◌, ◌/◌, ◌∙◌, sym, ap, subst, arith}
use Rattle.std.specs.Result.{IsOk, OnOk}
use Rattle.mte_tags.specs.declared.tagged.NoPagesLeft.{NoPagesLeft}
use Rattle.mte_tags.specs.Memory.{page_at, pages_left, with_new_pages}
use Rattle.scudo_heap.specs.Stacks.{StackState, stack_of, after_carve}
use Rattle.scudo_heap.specs.Placing.{next_page, heap_attrs}
use Rattle.scudo_heap.specs.Inner.{AreRegions}
use Rattle.scudo_heap.proofs.ServedLemmas.{MayGrow, next-free, regions-grown, grown-some}
use Rattle.scudo_heap.proofs.classes.grow.Goals as goal

on-ok : (r : Result (Unit {0}) NoPagesLeft) (P : Type 0) → IsOk r → OnOk r P → P
on-ok (Ok u) P h f = f
on-ok (Err e) P h f = absurd (cc)

pub map_pages-requires-clause-free : goal.map_pages-requires-clause-free
map_pages-requires-clause-free g c = λ i l.
    let m = g.M.Tagged.memory c.args.memory.now in
    let s = c.args.stacks.now in
    let k = c.args.class in
    let n = (c.size_of_class.result + 4095) / 4096 in
    let left = c.pages_left.ensures.answer in
    let most = c.pages.ensures.most in
    let same = c.pages.ensures.pages in
    let enough = c.if-pages-pages_left.false in
    let start = c.region_start.ensures in
    let may : MayGrow m s k n = record { class = c.requires.class; enough = omega arith; most = omega arith } in
    let first : c.region_start.result / 4096 + c.pages.result + i ≡ next_page s k + i = omega arith in
    ap (λ t. page_at t (c.region_start.result / 4096 + c.pages.result + i)) c.pages_left.ensures.memory ∙ ap (page_at m) first
    ∙ next-free m s k n c.requires.regions may i l

pub returns-clause-some : goal.returns-clause-some
returns-clause-some g c = λ _ e.
    let s = c.args.stacks.now in
    let k = c.args.class in
    let n = (c.size_of_class.result + 4095) / 4096 in
    let own = c.size_of_class.ensures.size in
    grown-some s k n c.requires.class (omega arith) (ap (λ (t : StackState). stack_of t k) (sym c.carve.ensures) ∙ e)

pub returns-clause-regions : goal.returns-clause-regions
returns-clause-regions g c =
    let m = g.M.Tagged.memory c.args.memory.now in
    let s = c.args.stacks.now in
    let k = c.args.class in
    let n = (c.size_of_class.result + 4095) / 4096 in
    let left = c.pages_left.ensures.answer in
    let most = c.pages.ensures.most in
    let same = c.pages.ensures.pages in
    let enough = c.if-pages-pages_left.false in
    let start = c.region_start.ensures in
    let may : MayGrow m s k n = record { class = c.requires.class; enough = omega arith; most = omega arith } in
    let own = c.size_of_class.ensures.size in
    let first : c.region_start.result / 4096 + c.pages.result ≡ next_page s k = omega arith in
    let ok : IsOk c.map_pages.result = c.map_pages.ensures.answer.1 (let e = ap pages_left c.pages_left.ensures.memory in omega arith) in
    let memory : g.M.Tagged.memory c.map_pages.new.self ≡ with_new_pages m (next_page s k) n heap_attrs =
    on-ok c.map_pages.result _ ok c.map_pages.ensures.ok ∙ (λ i. with_new_pages (c.pages_left.ensures.memory i) (first i) n heap_attrs) in
    let stacks : c.carve.new.self ≡ after_carve s k n = c.carve.ensures in
    subst (λ t. AreRegions t c.carve.new.self) (sym memory) (subst (AreRegions (with_new_pages m (next_page s k) n heap_attrs)) (sym stacks) (regions-grown m s k n c.requires.regions may))
