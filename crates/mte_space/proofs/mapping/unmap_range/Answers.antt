use Rattle.std.proofs.Common.{◌≡◌, ◌∙◌, ◌+◌, ◌-◌, sym, subst, ap, arith, false, refl, is_some}
use Rattle.mte_tags.specs.Memory.{without_page, without_pages}
use Rattle.mte_tags.specs.declared.state.TagMode.TheVariants.{Sync}
use Rattle.mte_tags.specs.declared.state.TagState.{TagState}
use Rattle.mte_tags.proofs.PageLaws.{without_pages-step}
use Rattle.mte_translate.specs.Tables.{pages_of, IsCached}
use Rattle.mte_space.specs.Spaces.{space_memory, KeepsRest, NoneEnters}
use Rattle.mte_space.specs.KeptSpaces.{rest_same, rest_on, none_enters_same, none_enters_on}
use Rattle.mte_space.proofs.Memories.{mapped_there}
use Rattle.mte_space.proofs.MapSteps.{mapped_low, forgotten_enters}
use Rattle.mte_space.proofs.mapping.unmap_range.Goals as goal

some_state : TagState
some_state = record { mode = Sync; pending = false }

pub overflow_add-gone : goal.overflow_add-gone
overflow_add-gone c =
    let low = mapped_low c.loop-i.pool c.loop-i.table.frame (c.args.pages.first + c.loop-i.i) (c.loop-i.invariant.mapped c.loop-i.i (omega arith) (omega arith)) in
    omega (arith, low)

pub loop-i-init : goal.loop-i-init
loop-i-init c =
    let m = space_memory c.args.pool.now c.args.table.now c.args.tenant.pages in
    let zero : c.args.pages.first + 0 ≡ c.args.pages.first = omega arith in
    let all : c.args.pages.count - 0 ≡ c.args.pages.count = omega arith in
    record {
      space = c.requires.space;
      mapped = λ k a b. mapped_there c.args.pool.now c.args.table.now c.args.tenant.pages some_state (c.args.pages.first + k) (c.requires.mapped some_state k b);
      memory = λ s. ap (λ q. without_pages (m s) q (c.args.pages.count - 0)) zero ∙ ap (λ k. without_pages (m s) c.args.pages.first k) all;
      cached = c.requires.cached;
      entries = none_enters_same c.args.tenant.asid c.args.tlb.now;
      rest = rest_same c.args.quota.now c.args.pool.now c.args.table.now;
      same = refl;
    }

pub loop-i-preserved : goal.loop-i-preserved
loop-i-preserved c =
    let unmap = c.unmap_page.ensures in
    let was = c.loop-i.invariant in
    let q = c.args.pages.first + c.loop-i.i in
    let old = λ (s : TagState). space_memory c.loop-i.pool c.loop-i.table c.args.tenant.pages s in
    let next : c.args.pages.first + (c.loop-i.i + 1) ≡ q + 1 = omega arith in
    let less : c.args.pages.count - (c.loop-i.i + 1) ≡ c.args.pages.count - c.loop-i.i - 1 = omega arith in
    record {
      space = unmap.space;
      mapped = λ k a b. ap is_some (unmap.others (c.args.pages.first + k) (λ e. omega (arith, e, a))) ∙ was.mapped k (omega (arith, a)) b;
      memory = λ s.
          ap (λ m. without_pages m (c.args.pages.first + (c.loop-i.i + 1)) (c.args.pages.count - (c.loop-i.i + 1))) (unmap.memory s)
          ∙ ap (λ k. without_pages (without_page (old s) q) k (c.args.pages.count - (c.loop-i.i + 1))) next
          ∙ ap (λ k. without_pages (without_page (old s) q) (q + 1) k) less
          ∙ sym (without_pages-step (old s) q (c.args.pages.count - c.loop-i.i) (omega arith))
          ∙ was.memory s;
      cached = subst (λ ts. IsCached (pages_of c.unmap_page.new.pool c.unmap_page.new.table.frame) c.args.tenant.asid ts) (sym c.forget.ensures) (unmap.cached c.args.tenant.asid c.loop-i.tlb was.cached);
      entries = none_enters_on c.args.tenant.asid c.args.tlb.now c.loop-i.tlb c.forget.new.self was.entries
          (subst (λ ts. NoneEnters c.args.tenant.asid c.loop-i.tlb ts) (sym c.forget.ensures) (forgotten_enters c.args.tenant.asid q c.loop-i.tlb));
      rest = rest_on c.args.quota.now c.args.pool.now c.loop-i.pool _ c.args.table.now c.loop-i.table _ was.rest (subst (λ k. KeepsRest k c.loop-i.pool c.unmap_page.new.pool c.loop-i.table c.unmap_page.new.table) was.same unmap.rest);
      same = unmap.same ∙ was.same;
    }

pub returns-clause-memory : goal.returns-clause-memory
unfolding without_pages
returns-clause-memory c = λ s.
    let e : c.args.pages.count - c.loop-i.i ≡ 0 = omega arith in
    ap (λ k. without_pages (space_memory c.loop-i.pool c.loop-i.table c.args.tenant.pages s) (c.args.pages.first + c.loop-i.i) k) (sym e) ∙ c.loop-i.invariant.memory s
