use Rattle.std.proofs.Common.{◌≡◌, ◌∙◌, ◌+◌, ◌-◌, sym, subst, ap, arith, false, refl}
use Rattle.mte_tags.specs.Memory.{with_page, with_new_pages, new_page}
use Rattle.mte_tags.specs.declared.state.TagMode.TheVariants.{Sync}
use Rattle.mte_tags.specs.declared.state.TagState.{TagState}
use Rattle.mte_tags.proofs.PageLaws.{with_new_pages-step}
use Rattle.mte_space.specs.Spaces.{space_memory, KeepsRest}
use Rattle.mte_space.specs.KeptSpaces.{rest_same, rest_on}
use Rattle.mte_space.proofs.Memories.{unmapped_there}
use Rattle.mte_space.proofs.mapping.map_range.Goals as goal

some_state : TagState
some_state = record { mode = Sync; pending = false }

pub loop-i-init : goal.loop-i-init
loop-i-init c =
    let m = space_memory c.args.pool.now c.args.table.now c.args.limit in
    let zero : c.args.pages.first + 0 ≡ c.args.pages.first = omega arith in
    let all : c.args.pages.count - 0 ≡ c.args.pages.count = omega arith in
    record {
      space = c.requires.space;
      len = omega arith;
      free = λ k a b. unmapped_there c.args.pool.now c.args.table.now c.args.limit some_state (c.args.pages.first + k) (c.requires.free some_state k b);
      memory = λ s. ap (λ q. with_new_pages (m s) q (c.args.pages.count - 0) c.args.attrs) zero ∙ ap (λ k. with_new_pages (m s) c.args.pages.first k c.args.attrs) all;
      cached = λ asid ts h. h;
      rest = rest_same c.args.quota.now c.args.pool.now c.args.table.now;
      same = refl;
    }

pub loop-i-preserved : goal.loop-i-preserved
loop-i-preserved c =
    let map = c.map_page.ensures in
    let was = c.loop-i.invariant in
    let q = c.args.pages.first + c.loop-i.i in
    let old = λ (s : TagState). space_memory c.loop-i.pool c.loop-i.table c.args.limit s in
    let next : c.args.pages.first + (c.loop-i.i + 1) ≡ q + 1 = omega arith in
    let less : c.args.pages.count - (c.loop-i.i + 1) ≡ c.args.pages.count - c.loop-i.i - 1 = omega arith in
    record {
      space = map.space;
      len = omega (arith, map.len, was.len);
      free = λ k a b. map.others (c.args.pages.first + k) (λ e. omega (arith, e, a)) ∙ was.free k (omega (arith, a)) b;
      memory = λ s.
          ap (λ m. with_new_pages m (c.args.pages.first + (c.loop-i.i + 1)) (c.args.pages.count - (c.loop-i.i + 1)) c.args.attrs) (map.memory s)
          ∙ ap (λ k. with_new_pages (with_page (old s) q (new_page c.args.attrs.0)) k (c.args.pages.count - (c.loop-i.i + 1)) c.args.attrs) next
          ∙ ap (λ k. with_new_pages (with_page (old s) q (new_page c.args.attrs.0)) (q + 1) k c.args.attrs) less
          ∙ sym (with_new_pages-step (old s) q (c.args.pages.count - c.loop-i.i) c.args.attrs (omega arith))
          ∙ was.memory s;
      cached = λ asid ts h. map.cached asid ts (was.cached asid ts h);
      rest = rest_on c.args.quota.now c.args.pool.now c.loop-i.pool _ c.args.table.now c.loop-i.table _ was.rest (subst (λ k. KeepsRest k c.loop-i.pool c.map_page.new.pool c.loop-i.table c.map_page.new.table) was.same map.rest);
      same = map.same ∙ was.same;
    }

pub map_page-requires-clause-left : goal.map_page-requires-clause-left
map_page-requires-clause-left c = omega (arith, c.loop-i.invariant.len, c.requires.left)

pub map_page-requires-clause-unmapped : goal.map_page-requires-clause-unmapped
map_page-requires-clause-unmapped c = c.loop-i.invariant.free c.loop-i.i (omega arith) (omega arith)

pub returns-clause-memory : goal.returns-clause-memory
unfolding with_new_pages
returns-clause-memory c = λ s.
    let e : c.args.pages.count - c.loop-i.i ≡ 0 = omega arith in
    ap (λ k. with_new_pages (space_memory c.loop-i.pool c.loop-i.table c.args.limit s) (c.args.pages.first + c.loop-i.i) k c.args.attrs) (sym e) ∙ c.loop-i.invariant.memory s
