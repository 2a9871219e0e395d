use Rattle.std.proofs.Common.{◌≡◌, [], subst, rules}
use Rattle.mte_streams.specs.Writing.{WrotePart, WroteAll}
use Rattle.mte_session.proofs.PartLemmas.{on_err, last_ok, last_err}
use Rattle.mte_session.proofs.ReportLemmas.{part_more}
use Rattle.mte_session.proofs.text.append_part.Goals as goal

pub returns-in_err-write_all-clause-err : goal.returns-in_err-write_all-clause-err
returns-in_err-write_all-clause-err g c =
    let e : c.as_slice.result.now ≡ c.args.line.now.items = search rules in
    on_err c.from_residual.result _ (part_more _ _ c.args.line.now.items c.args.part.now (subst (λ t. WrotePart (g.W.Sink.log c.args.out.now) (g.W.Sink.log c.write_all.new.out) t) e c.in_err-write_all.ensures))

pub returns-clause-ok : goal.returns-clause-ok
returns-clause-ok g c =
    let e : c.as_slice.result.now ≡ c.args.line.now.items = search rules in
    let none : c.try_extend_from_slice-2.new.self.items ≡ [] = search rules in
    let first = subst (λ t. WroteAll (g.W.Sink.log c.args.out.now) (g.W.Sink.log c.write_all.new.out) t) e c.in_ok-write_all.ensures in
    last_ok _ _ _ c.write_all-2.result c.args.line.now.items c.args.part.now _ first c.write_all-2.ensures none

pub returns-clause-err : goal.returns-clause-err
returns-clause-err g c =
    let e : c.as_slice.result.now ≡ c.args.line.now.items = search rules in
    let first = subst (λ t. WroteAll (g.W.Sink.log c.args.out.now) (g.W.Sink.log c.write_all.new.out) t) e c.in_ok-write_all.ensures in
    last_err _ _ _ c.write_all-2.result c.args.line.now.items c.args.part.now first c.write_all-2.ensures
