use Rattle.std.proofs.Common.{take}
use Rattle.mte_streams.specs.Writing.{WroteAll}
use Rattle.mte_session.specs.Progress.{record_texts}
use Rattle.mte_session.proofs.session.write_tenants.Given as goal

abbrev pub invariant-loop-tenant : goal.invariant-loop-tenant
invariant-loop-tenant g l = WroteAll (g.W.Sink.log l.fn.out) (g.W.Sink.log l.out) (record_texts (take l.tenant-index l.tenants))
