use Rattle.std.proofs.Common.{take, map}
use Rattle.std.specs.List.{concat}
use Rattle.mte_session.specs.Parts.{WroteBut}
use Rattle.mte_session.proofs.text.write_parts.Given as goal

-- all parts so far are written but what is collected
abbrev pub invariant-loop-part : goal.invariant-loop-part
invariant-loop-part g l = WroteBut (g.W.Sink.log l.fn.out) (g.W.Sink.log l.out) (concat (map (λ p. p.now) (take l.part-index l.parts))) l.line.items
