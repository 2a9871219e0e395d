use Rattle.std.proofs.Common.{◌∙◌, ap, sym, refl}
use Rattle.std.specs.Prelude.{option_map}
use Rattle.mte_sched.proofs.EachLemmas.{found_at, found_none}
use Rattle.mte_sched.proofs.FrameLemmas.{some_table}
use Rattle.mte_sched.proofs.host.Host.find_frame.Goals as goal

pub returns-in_err-tenant : goal.returns-in_err-tenant
returns-in_err-tenant c =
    c.from_residual.ensures
    ∙ sym (ap (option_map (λ x. x.0)) (found_none c.args.self.now.pool c.args.id c.args.page c.args.self.now.tenants.items (c.in_err-tenant.ensures.none refl)))

pub find_frame-requires : goal.find_frame-requires
find_frame-requires c =
    let h = c.args.self.now in
    let t = c.in_ok-tenant.tenant.now in
    some_table h.pool h.caches.tlb h.tenants.items h.sharing c.in_ok-tenant.ensures.some.at t t.holding c.in_ok-tenant.ensures.some.stands refl

pub returns : goal.returns
returns c =
    let h = c.args.self.now in
    let t = c.in_ok-tenant.tenant.now in
    let found = c.in_ok-tenant.ensures.some in
    c.find_frame.ensures
    ∙ sym (ap (option_map (λ x. x.0)) (found_at h.pool c.args.id c.args.page h.tenants.items found.at t found.stands found.number (λ j u at e. h.sharing.numbers j found.at u t at found.stands (e ∙ sym found.number))))
