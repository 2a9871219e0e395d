use Rattle.std.proofs.Common.{◌-◌, ◌∙◌, length, ap}
use Rattle.mte_sched.proofs.IndexLemmas.{knows_by}
use Rattle.mte_sched.proofs.AdmitLemmas.{facts_same}
use Rattle.mte_sched.proofs.host.Host.ledger_facts.Goals as goal

pub returns : goal.returns
returns c =
    let h = c.args.self.now in
    facts_same _ _ _ _ _ _
    (c.is_some.ensures ∙ knows_by h.tenants.items c.args.id c.find.result c.find.ensures.some c.find.ensures.none)
    (c.unreserved.ensures ∙ ap (λ n. length h.pool.frames - n) h.sharing.reserved)
    h.counted
