use Rattle.std.proofs.Common.{◌==◌, Box, List, get_or}
use Rattle.std.specs.declared.alloc.Global.{Global}
use Rattle.mte_svc.specs.declared.parts.TenantParts.{TenantParts}
use Rattle.mte_sched.specs.declared.tenant.Tenant.{Tenant}
use Rattle.mte_sched.specs.Tenants.{record_in, is_live_holding}
use Rattle.mte_sched.specs.Sharing.{LiesAt}
use Rattle.mte_sched.proofs.TurnLemmas.{live_within, live_at, live_id, both_left, both_right, not_gone, sliced_sharing, sliced_tenants}
use Rattle.mte_sched.proofs.turns.slice_at.Goals as goal

pub slice-requires-clause-placed : goal.slice-requires-clause-placed
slice-requires-clause-placed g c =
    let t : Tenant = get_or c.args.tenants.now c.args.asid c.index-tenants-asid.result in
    let lies : LiesAt c.args.tenants.now c.args.asid t c.in-Live.live = record { tenant = live_at c.args.tenants.now c.args.asid c.args.id c.index-tenants-asid.result c.requires.live; live = c.in-Live.is } in
    c.requires.sharing.placed c.args.asid t c.in-Live.live lies

pub slice-requires-clause-ready : goal.slice-requires-clause-ready
slice-requires-clause-ready g c =
    let t : Tenant = get_or c.args.tenants.now c.args.asid c.index-tenants-asid.result in
    let lies : LiesAt c.args.tenants.now c.args.asid t c.in-Live.live = record { tenant = live_at c.args.tenants.now c.args.asid c.args.id c.index-tenants-asid.result c.requires.live; live = c.in-Live.is } in
    c.requires.sharing.ready c.args.asid t c.in-Live.live lies

pub returns-in-Live : goal.returns-in-Live
returns-in-Live g c =
    let ts : List Tenant = c.args.tenants.now in
    let t : Tenant = get_or ts c.args.asid c.index-tenants-asid.result in
    let live = live_id ts c.args.asid c.args.id c.index-tenants-asid.result c.requires.live in
    let lies : LiesAt ts c.args.asid t c.in-Live.live = record { tenant = live_at ts c.args.asid c.args.id c.index-tenants-asid.result c.requires.live; live = c.in-Live.is } in
    let same = both_right (is_live_holding t.holding) ((record_in t).id == c.args.id) live in
    let within = live_within ts c.args.asid c.args.id c.requires.live in
    let turn = c.slice.ensures in
    let parts : Box TenantParts Global = c.slice.new.self.parts in
    record {
      sharing = sliced_sharing c.args.pool.now c.slice.new.pool c.args.caches.now.tlb c.slice.new.caches.tlb ts c.args.asid c.args.id t c.in-Live.live c.requires.sharing lies same within turn.rest.others turn.entries
          c.args.steps c.slice.new.self.memory parts turn.rest turn.same turn.space turn.cached turn.remembered turn.ready turn.machine c.recall.ensures.sound c.recall-in-Live.ensures.sound;
      frames = turn.rest.others.count;
      capacities = turn.rest.capacities;
      tenants = sliced_tenants c.args.pool.now c.slice.new.pool c.args.caches.now.tlb c.slice.new.caches.tlb ts c.args.asid c.args.id t c.in-Live.live c.requires.sharing lies same within turn.rest.others turn.entries
          c.args.steps c.slice.new.self.memory parts turn.rest turn.same turn.space turn.cached turn.remembered turn.ready turn.machine c.recall.ensures.sound c.recall-in-Live.ensures.sound;
    }

pub returns-in_default-clause-tenants : goal.returns-in_default-clause-tenants
returns-in_default-clause-tenants g c =
    let t : Tenant = get_or c.args.tenants.now c.args.asid c.index-tenants-asid.result in
    let live = live_id c.args.tenants.now c.args.asid c.args.id c.index-tenants-asid.result c.requires.live in
    absurd (not_gone t.holding c.in_default.field-0 (both_left (is_live_holding t.holding) ((record_in t).id == c.args.id) live) c.in_default.is)
