use Rattle.std.proofs.Common.{take}
use Rattle.mte_streams.specs.Writing.{WroteAll}
use Rattle.mte_session.specs.Sessions.{refused_texts}
use Rattle.mte_session.proofs.session.write_refusals.Given as goal

abbrev pub invariant-loop-refusal : goal.invariant-loop-refusal
invariant-loop-refusal g l = WroteAll (g.W.Sink.log l.fn.out) (g.W.Sink.log l.out) (refused_texts (take l.refusal-index l.refused))
