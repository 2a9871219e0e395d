use Rattle.std.proofs.Common.{◌∙◌, Some, ap, sym, refl}
use Rattle.mte_sched.proofs.EachLemmas.{record_at, record_none}
use Rattle.mte_sched.proofs.host.Host.view.Goals as goal

pub returns-in_err-tenant : goal.returns-in_err-tenant
returns-in_err-tenant c =
    rw c.from_residual.ensures (sym (record_none c.args.self.now.pool c.args.id c.args.self.now.tenants.items (c.in_err-tenant.ensures.none refl)))

pub returns : goal.returns
returns c =
    let h = c.args.self.now in
    let t = c.in_ok-tenant.tenant.now in
    let found = c.in_ok-tenant.ensures.some in
    ap (λ r. Some r) c.record.ensures
    ∙ sym (record_at h.pool c.args.id h.tenants.items found.at t found.stands found.number (λ j u at e. h.sharing.numbers j found.at u t at found.stands (e ∙ sym found.number)))
