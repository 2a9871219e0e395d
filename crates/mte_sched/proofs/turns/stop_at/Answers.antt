use Rattle.std.proofs.Common.{◌≡◌, ◌==◌, ◌∙◌, ◌+◌, ◌<◌, ℕ, true, List, Some, length, get_or, slice_set, count_by, ap, sym, subst, rules, arith}
use Rattle.std.specs.Prelude.{vec_len}
use Rattle.mte_tags.specs.Memory.{Memory}
use Rattle.mte_svc.specs.declared.parts.TenantParts.{TenantParts}
use Rattle.mte_sched.specs.declared.tenant.Tenant.{Tenant}
use Rattle.mte_sched.specs.declared.tenant.Holding.TheVariants as kept
use Rattle.mte_tenant.specs.Machines.{machine_of, after_stop}
use Rattle.mte_tenant.specs.Ledger.{has_live_id, is_live}
use Rattle.mte_sched.specs.Tenants.{record_in, is_live_holding, entry_in, entries_in, tenants_in}
use Rattle.mte_sched.specs.Sharing.{LiesAt, IsSharing}
use Rattle.mte_sched.proofs.PlaceLists.{put_back}
use Rattle.mte_sched.proofs.TurnLemmas.{live_within, live_at, live_id, both_right, gone_enters, stopped_sharing, stopped_tenants, stopped_count}
use Rattle.mte_sched.proofs.turns.stop_at.Goals as goal

pub stop_memory-requires : goal.stop_memory-requires
stop_memory-requires c =
    let ts : List Tenant = c.args.tenants.now.items in
    let i : ℕ = c.args.asid in
    let t : Tenant = c.swap_remove-pages.result in
    let is : t ≡ get_or ts i t = c.swap_remove-pages.ensures.value in
    let lies : LiesAt ts i t c.in-Live.live = record { tenant = live_at ts i c.args.id t c.requires.live ∙ ap (λ (u : Tenant). Some u) (sym is); live = c.in-Live.is } in
    c.requires.sharing.placed i t c.in-Live.live lies

pub swap-requires-clause-i_in_bounds : goal.swap-requires-clause-i_in_bounds
swap-requires-clause-i_in_bounds c =
    let ts : List Tenant = c.args.tenants.now.items in
    let all : vec_len c.args.tenants.now ≡ length ts = search rules in
    let within : c.args.asid < length ts = live_within ts c.args.asid c.args.id c.requires.live in
    omega (arith, all, within, c.swap_remove-pages.ensures.len, c.push_reserved.ensures.len)

pub returns : goal.returns
returns c =
    let ts : List Tenant = c.args.tenants.now.items in
    let i : ℕ = c.args.asid in
    let t : Tenant = c.swap_remove-pages.result in
    let is : t ≡ get_or ts i t = c.swap_remove-pages.ensures.value in
    let lies : LiesAt ts i t c.in-Live.live = record { tenant = live_at ts i c.args.id t c.requires.live ∙ ap (λ (u : Tenant). Some u) (sym is); live = c.in-Live.is } in
    let live : has_live_id c.args.id (entry_in t) ≡ true = subst (λ (u : Tenant). has_live_id c.args.id (entry_in u) ≡ true) (sym is) (live_id ts i c.args.id t c.requires.live) in
    let all : vec_len c.args.tenants.now ≡ length ts = search rules in
    let within : i < length ts = live_within ts i c.args.id c.requires.live in
    let last : ℕ = c.len-last.result in
    let many : length ts ≡ last + 1 = omega (arith, all, c.swap_remove-pages.ensures.len, c.len-last.ensures) in
    let left : Tenant = record { pages = t.pages; holding = kept.Gone c.halt.new.parts.history } in
    let back : c.swap.new.self.items ≡ slice_set ts i left = put_back ts c.swap_remove-pages.new.self.items c.swap.new.self.items i last t left within many c.swap_remove-pages.ensures.items
    (subst (λ (l : List Tenant). c.swap.new.self.items ≡ slice_set (slice_set l i (get_or l last left)) last (get_or l i left)) c.push_reserved.ensures.items (c.swap.ensures.by_index.3 left)) in
    let turn = c.stop_memory.ensures in
    let entries = gone_enters i c.args.tlb.now c.stop_memory.new.tlb turn.entries in
    let same = both_right (is_live_holding t.holding) ((record_in t).id == c.args.id) live in
    let step : (m : Memory) → machine_of c.halt.new.parts m ≡ after_stop (machine_of c.in-Live.live.parts.value m) =
    λ m. c.halt.ensures.machine m ∙ ap (λ (q : TenantParts). after_stop (machine_of q m)) c.into_inner-parts.ensures in
    record {
      sharing = subst (λ (l : List Tenant). IsSharing c.stop_memory.new.pool c.stop_memory.new.tlb l) (sym back)
          (stopped_sharing c.args.pool.now c.stop_memory.new.pool c.args.tlb.now c.stop_memory.new.tlb ts i c.args.id t c.in-Live.live c.requires.sharing lies same within turn.others entries c.halt.new.parts turn.entries turn.reserved step);
      frames = turn.others.count;
      capacities = turn.capacities;
      room = c.swap.ensures.capacity ∙ c.push_reserved.ensures.capacity ∙ c.swap_remove-pages.ensures.capacity;
      tenants = ap (tenants_in c.stop_memory.new.pool) back
          ∙ stopped_tenants c.args.pool.now c.stop_memory.new.pool c.args.tlb.now c.stop_memory.new.tlb ts i c.args.id t c.in-Live.live c.requires.sharing lies same within turn.others entries c.halt.new.parts turn.entries turn.reserved step;
      live = ap (λ l. count_by is_live (entries_in l) + 1) back
          ∙ stopped_count c.args.pool.now c.stop_memory.new.pool c.args.tlb.now c.stop_memory.new.tlb ts i c.args.id t c.in-Live.live c.requires.sharing lies same within turn.others entries c.halt.new.parts turn.entries turn.reserved step;
    }
