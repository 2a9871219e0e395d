use Rattle.std.proofs.Common.{◌∙◌, sym}
use Rattle.mte_sched.proofs.FrameLemmas.{holds, none, apart}
use Rattle.mte_sched.proofs.host.Host.frame_of.Goals as goal

pub returns-clause-holds : goal.returns-clause-holds
returns-clause-holds c = rw c.find_frame.ensures (holds c.args.self.now.pool c.args.self.now.caches.tlb c.args.self.now.tenants.items c.args.self.now.sharing c.args.id c.args.page)

pub returns-clause-none : goal.returns-clause-none
returns-clause-none c = λ e. none c.args.self.now.pool c.args.self.now.caches.tlb c.args.self.now.tenants.items c.args.self.now.sharing c.args.id c.args.page (sym c.find_frame.ensures ∙ e)

pub returns-clause-apart : goal.returns-clause-apart
returns-clause-apart c = rw c.find_frame.ensures (apart c.args.self.now.pool c.args.self.now.caches.tlb c.args.self.now.tenants.items c.args.self.now.sharing c.args.id c.args.page)
