use Rattle.std.proofs.Common.{◌≡◌, ◌∙◌, ap, sym, subst, arith, true, false, rules, refl}
use Rattle.std.specs.List.{list_any}
use Rattle.mte_tenant.specs.Ledger.{has_live_id, numbers_of}
use Rattle.mte_sched.specs.Tenants.{entries_in}
use Rattle.mte_sched.specs.Sharing.{IsIndexed}
use Rattle.mte_sched.specs.Hosts.{ledger_in}
use Rattle.mte_sched.proofs.EachLemmas.{ledger_is, live_there}
use Rattle.mte_sched.proofs.IndexLemmas.{stopped_numbers}
use Rattle.mte_sched.proofs.host.Host.stop.Goals as goal

pub returns-in_default-clause-live : goal.returns-in_default-clause-live
returns-in_default-clause-live c =
    let none : list_any (has_live_id c.args.id) (ledger_in c.args.self.now) ≡ false =
    ap (list_any (has_live_id c.args.id)) (ledger_is c.args.self.now.pool c.args.self.now.tenants.items) ∙ c.in_default.ensures.none refl in
    rw none (search rules)

pub invariant_of-self : goal.invariant_of-self
invariant_of-self c =
    let h = c.args.self.now in
    let same : numbers_of (entries_in c.stop_at.new.tenants.items) ≡ numbers_of (entries_in h.tenants.items) =
    stopped_numbers h.pool c.stop_at.new.pool h.tenants.items c.stop_at.new.tenants.items c.args.id c.stop_at.ensures.tenants in
    record {
      sharing = c.stop_at.ensures.sharing;
      indexed = subst (IsIndexed h.index.positions.items) (sym same) h.indexed;
      counted = omega (arith, h.counted, c.stop_at.ensures.live);
    }

pub returns-clause-live : goal.returns-clause-live
returns-clause-live c =
    let some : list_any (has_live_id c.args.id) (ledger_in c.args.self.now) ≡ true =
    ap (list_any (has_live_id c.args.id)) (ledger_is c.args.self.now.pool c.args.self.now.tenants.items) ∙ live_there c.args.id c.args.self.now.tenants.items c.in-Some.asid c.in-Some.ensures.some in
    rw some (search rules)
