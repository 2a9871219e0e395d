use Rattle.std.proofs.Common.{◌≡◌, ◌∙◌, ◌++◌, List, take, drop, length, ap, sym, subst, count_by, arith, true, false, rules, refl}
use Rattle.std.specs.Prelude.{vec_len}
use Rattle.std.specs.List.{list_any}
use Rattle.mte_tenant.specs.Ledger.{has_live_id, is_live, numbers_of}
use Rattle.std.proofs.Math.Seq.{take-append_seam}
use Rattle.mte_sched.specs.declared.tenant.Tenant.{Tenant}
use Rattle.mte_sched.specs.Tenants.{entries_in}
use Rattle.mte_sched.specs.Sharing.{IsIndexed}
use Rattle.mte_sched.specs.Hosts.{ledger_in}
use Rattle.mte_sched.proofs.EachLemmas.{ledger_is, live_there}
use Rattle.mte_sched.proofs.IndexLemmas.{sliced_entries}
use Rattle.mte_sched.proofs.host.Host.slice_with_blocks.Goals as goal

pub returns-in_default-clause-live : goal.returns-in_default-clause-live
returns-in_default-clause-live g c =
    let none : list_any (has_live_id c.args.id) (ledger_in c.args.self.now) ≡ false =
    ap (list_any (has_live_id c.args.id)) (ledger_is c.args.self.now.pool c.args.self.now.tenants.items) ∙ c.in_default.ensures.none refl in
    rw none (search rules)

pub invariant_of-self-clause-indexed : goal.invariant_of-self-clause-indexed
invariant_of-self-clause-indexed g c =
    let h = c.args.self.now in
    let us : List Tenant = c.slice_at.new.tenants in
    let back : take (vec_len h.tenants) (us ++ drop (length us) h.tenants.items) ≡ us =
    ap (λ n. take n (us ++ drop (length us) h.tenants.items)) (omega (arith, c.as_mut_slice-tenants.ensures.len, c.slice_at.auto.tenants)) ∙ take-append_seam us (drop (length us) h.tenants.items) in
    let same : entries_in us ≡ entries_in h.tenants.items =
    sliced_entries h.pool c.slice_at.new.pool c.as_mut_slice-tenants.result.now us c.args.id c.args.steps c.slice_at.ensures.tenants
    ∙ ap entries_in c.as_mut_slice-tenants.ensures.value in
    subst (λ es. IsIndexed h.index.positions.items (numbers_of es)) (sym (ap entries_in back ∙ same)) h.indexed

pub invariant_of-self-clause-counted : goal.invariant_of-self-clause-counted
invariant_of-self-clause-counted g c =
    let h = c.args.self.now in
    let us : List Tenant = c.slice_at.new.tenants in
    let back : take (vec_len h.tenants) (us ++ drop (length us) h.tenants.items) ≡ us =
    ap (λ n. take n (us ++ drop (length us) h.tenants.items)) (omega (arith, c.as_mut_slice-tenants.ensures.len, c.slice_at.auto.tenants)) ∙ take-append_seam us (drop (length us) h.tenants.items) in
    let same : entries_in us ≡ entries_in h.tenants.items =
    sliced_entries h.pool c.slice_at.new.pool c.as_mut_slice-tenants.result.now us c.args.id c.args.steps c.slice_at.ensures.tenants
    ∙ ap entries_in c.as_mut_slice-tenants.ensures.value in
    h.counted ∙ ap (count_by is_live) (sym (ap entries_in back ∙ same))

pub returns-clause-live : goal.returns-clause-live
returns-clause-live g c =
    let some : list_any (has_live_id c.args.id) (ledger_in c.args.self.now) ≡ true =
    ap (list_any (has_live_id c.args.id)) (ledger_is c.args.self.now.pool c.args.self.now.tenants.items) ∙ live_there c.args.id c.args.self.now.tenants.items c.in-Some.asid c.in-Some.ensures.some in
    rw some (search rules)
