use Rattle.std.proofs.Common.{◌≡◌, take, map, subst, rules, arith}
use Rattle.std.specs.List.{concat}
use Rattle.std.proofs.lemmas.List.{take_all}
use Rattle.mte_streams.specs.Writing.{Writes}
use Rattle.mte_session.specs.Parts.{WroteBut}
use Rattle.mte_session.proofs.PartLemmas.{but_more, part_of_more, but_whole}
use Rattle.mte_session.proofs.ReportLemmas.{err_writes}
use Rattle.mte_session.proofs.text.write_parts.Goals as goal

pub returns-in_err-append_part : goal.returns-in_err-append_part
returns-in_err-append_part g c =
    err_writes _ _ c.from_residual.result _ _ (search rules) (part_of_more _ _ _ _ c.args.parts.now c.loop-part.part-index _ _ (omega arith) c.loop-part.invariant c.in_err-append_part.ensures.err)

pub loop-part-preserved : goal.loop-part-preserved
loop-part-preserved g c =
    but_more _ _ _ _ c.args.parts.now c.loop-part.part-index _ _ _ (omega arith) c.loop-part.invariant c.in_ok-append_part.ensures.ok

pub returns : goal.returns
returns g c =
    let old = g.W.Sink.log c.args.out.now in
    let mid = g.W.Sink.log c.loop-part.out in
    let e : c.as_slice.result.now ≡ c.loop-part.line.items = search rules in
    let all : take c.loop-part.part-index c.args.parts.now ≡ c.args.parts.now = take_all c.loop-part.part-index c.args.parts.now (omega arith) in
    let but = subst (λ t. WroteBut old mid (concat (map (λ p. p.now) t)) c.loop-part.line.items) all c.loop-part.invariant in
    but_whole old mid _ c.write_all.result _ c.loop-part.line.items but (subst (λ t. Writes mid (g.W.Sink.log c.write_all.new.out) c.write_all.result t) e c.write_all.ensures)
