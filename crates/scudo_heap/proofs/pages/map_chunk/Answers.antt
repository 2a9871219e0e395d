use Rattle.std.proofs.Common.{◌-◌, Result, Ok, Err, sym, subst, arith}
use Rattle.std.specs.Result.{IsOk, OnOk}
use Rattle.mte_tags.specs.declared.tagged.NoPagesLeft.{NoPagesLeft}
use Rattle.scudo_heap.specs.Heaps.{with_more}
use Rattle.scudo_heap.specs.Inner.{IsOpen}
use Rattle.scudo_heap.proofs.MapLemmas.{is-at}
use Rattle.scudo_heap.proofs.ServedLemmas.{pages-free, pages-open}
use Rattle.scudo_heap.proofs.pages.map_chunk.Goals as goal

on-ok : (r : Result (Unit {0}) NoPagesLeft) (P : Type 0) → IsOk r → OnOk r P → P
on-ok (Ok u) P h f = f
on-ok (Err e) P h f = absurd (cc)

pub map_pages-requires-clause-in_range : goal.map_pages-requires-clause-in_range
map_pages-requires-clause-in_range g c =
    let w = is-at c.args.maps.now.mappings c.args.mapping.pages c.args.mapping.start c.requires.place in
    let below = w.below in
    omega arith

pub map_pages-requires-clause-free : goal.map_pages-requires-clause-free
map_pages-requires-clause-free g c =
    pages-free (g.M.Tagged.memory c.args.memory.now) c.args.maps.now c.args.mapping.pages c.args.mapping.start c.requires.places
    (is-at c.args.maps.now.mappings c.args.mapping.pages c.args.mapping.start c.requires.place)

pub put_header-requires-clause-open : goal.put_header-requires-clause-open
put_header-requires-clause-open g c =
    let m = g.M.Tagged.memory c.args.memory.now in
    let n = c.args.mapping in
    let w = is-at c.args.maps.now.mappings n.pages n.start c.requires.place in
    let at = w.below in
    let large = c.requires.large in
    let above = large.above in
    let below = large.below in
    let memory = on-ok c.map_pages.result _ (c.map_pages.ensures.answer.1 c.requires.left) c.map_pages.ensures.ok in
    subst (λ t. IsOpen t (n.user - 16) n.user) (sym memory) (pages-open m n.pages n.start (n.user - 16) n.user w.aligned (omega arith) (omega arith) (omega arith))

pub returns-clause-maps : goal.returns-clause-maps
unfolding with_more
returns-clause-maps g c = c.add.ensures
