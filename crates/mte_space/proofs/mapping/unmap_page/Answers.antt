use Rattle.std.proofs.Common.{◌≡◌, ◌∙◌, ◌-◌, ◌≤◌, arith, sym, subst, ap, Option, Some, None, option_map, ℕ, refl, slice_set}
use Rattle.std.specs.FinMap.{get}
use Rattle.mte_tags.specs.declared.attrs.Attrs.{Attrs}
use Rattle.mte_frames.specs.Pool.{KeepsOthers, taken_by, make_pool}
use Rattle.mte_translate.specs.Tables.{Root, pages_of, IsTable}
use Rattle.mte_translate.proofs.TableLemmas.{len-some}
use Rattle.mte_space.specs.Spaces.{IsSpace}
use Rattle.mte_space.proofs.MapSteps.{Unmapped, unmapped, never_mapped}
use Rattle.mte_space.proofs.mapping.unmap_page.Goals as goal

away : (o : Option (ℕ × Attrs)) → option_map {U = ℕ} (λ x. x.0) o ≡ None → o ≡ None
away None e = refl
away (Some x) e = absurd cc

there : (o : Option (ℕ × Attrs)) (f : ℕ) → option_map {U = ℕ} (λ x. x.0) o ≡ Some f → (a : Attrs) × (o ≡ Some (f, a))
there None f e = absurd cc
there (Some (g, a)) f e = (a, let same : g ≡ f = cc in ap (λ i. Some (i, a)) same)

pub returns-in_default-clause-memory : goal.returns-in_default-clause-memory
returns-in_default-clause-memory c =
    let none = c.unmap.ensures.none c.in_default.is in
    let nothing = never_mapped c.args.pool.now c.unmap.new.pool c.args.quota.now c.args.page c.args.limit c.args.table.now c.unmap.new.self c.requires.space (away _ (sym c.unmap.ensures.frame ∙ c.in_default.is)) none.0 none.1 c.unmap.ensures.pages in
    nothing.memory

pub returns-in_default-clause-cached : goal.returns-in_default-clause-cached
returns-in_default-clause-cached c =
    let none = c.unmap.ensures.none c.in_default.is in
    let nothing = never_mapped c.args.pool.now c.unmap.new.pool c.args.quota.now c.args.page c.args.limit c.args.table.now c.unmap.new.self c.requires.space (away _ (sym c.unmap.ensures.frame ∙ c.in_default.is)) none.0 none.1 c.unmap.ensures.pages in
    nothing.cached

pub returns-in_default-clause-fewer : goal.returns-in_default-clause-fewer
returns-in_default-clause-fewer c = λ d. absurd (d (away _ (sym c.unmap.ensures.frame ∙ c.in_default.is)))

done : (c : goal.After-give) → Unmapped c.args.pool.now c.give.new.self c.args.quota.now c.args.page c.args.limit c.args.table.now c.unmap.new.self
done c =
    let u = c.unmap.ensures in
    let m = c.unmap.new.pool in
    let p = c.args.pool.now in
    let t = c.args.table.now in
    let found = there _ c.in-Some.frame (sym u.frame ∙ c.in-Some.is) in
    unmapped p m c.give.new.self c.args.quota.now c.in-Some.frame c.args.page c.args.limit found.0 t c.unmap.new.self c.requires.space c.recall.ensures.sound found.1
    (subst (λ k. IsTable m k c.unmap.new.self) u.same u.table) u.pages c.in-Some.ensures.free.0 c.in-Some.ensures.free.1 (c.in-Some.ensures.never c.requires.space.once)
    c.in-Some.ensures.counts (u.once c.requires.space.once) c.in-Some.ensures.taken u.reserved u.kept
    (subst (λ k. c.give.new.self ≡ make_pool m.capacities m.frames (slice_set m.owners c.in-Some.frame None) m.reserved (slice_set m.taken k (taken_by m k - 1))) u.same c.give.ensures.pool)
    u.others (subst (λ k. KeepsOthers k m c.give.new.self) u.same c.give.ensures.others) u.capacities

pub returns-clause-space : goal.returns-clause-space
returns-clause-space c = subst (λ k. IsSpace c.give.new.self k c.unmap.new.self c.args.limit) (sym (c.give.ensures.same ∙ c.unmap.ensures.same)) (done c).space

pub returns-clause-memory : goal.returns-clause-memory
returns-clause-memory c = (done c).memory

pub returns-clause-others : goal.returns-clause-others
returns-clause-others c = (done c).others

pub returns-clause-cached : goal.returns-clause-cached
returns-clause-cached c = (done c).cached

pub returns-clause-rest : goal.returns-clause-rest
returns-clause-rest c = (done c).rest

pub returns-clause-fewer : goal.returns-clause-fewer
returns-clause-fewer c = λ d.
    let found : (a : Attrs) × (get (pages_of c.args.pool.now c.args.table.now.frame) c.args.page ≡ Some (c.in-Some.frame, a)) = there _ c.in-Some.frame (sym c.unmap.ensures.frame ∙ c.in-Some.is) in
    let some : 1 ≤ c.args.table.now.len = len-some c.args.pool.now c.args.quota.now c.args.table.now c.args.page _ c.requires.space.table found.1 in
    omega (arith, ap (λ (x : Root). x.len) c.in-Some.ensures.counts, some)
