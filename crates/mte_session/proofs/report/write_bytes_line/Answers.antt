use Rattle.std.proofs.Common.{◌≡◌, ◌∷◌, [], ◌++◌, List, ℕ, length, codes, decimal, rules}
use Rattle.std.specs.List.{concat}
use Rattle.hex.specs.Hex.{encode_lower}
use Rattle.mte_streams.specs.Writing.{WroteAll, WrotePart}
use Rattle.mte_session.proofs.ReportLemmas.{err_writes, then_writes, then_part, then_all, part_more}
use Rattle.mte_session.proofs.report.write_bytes_line.Goals as goal

abbrev head : List ℕ → List ℕ
head output = concat (codes "output " ∷ decimal (length output) ∷ codes " " ∷ [])

pub returns-in_err-write_parts : goal.returns-in_err-write_parts
returns-in_err-write_parts g c =
    let text : c.as_bytes-count.result.now ≡ decimal (length c.args.output.now) = search rules in
    let first : WrotePart (g.W.Sink.log c.args.out.now) (g.W.Sink.log c.write_parts.new.out) (head c.args.output.now) = rw (← text) c.in_err-write_parts.ensures in
    err_writes _ _ c.from_residual.result _ _ (search rules) (part_more _ _ (head c.args.output.now ++ encode_lower c.args.output.now) (codes "\n") (part_more _ _ (head c.args.output.now) (encode_lower c.args.output.now) first))

pub returns-in_err-write_hex : goal.returns-in_err-write_hex
returns-in_err-write_hex g c =
    let text : c.as_bytes-count.result.now ≡ decimal (length c.args.output.now) = search rules in
    let first : WroteAll (g.W.Sink.log c.args.out.now) (g.W.Sink.log c.write_parts.new.out) (head c.args.output.now) = rw (← text) c.in_ok-write_parts.ensures in
    err_writes _ _ c.from_residual-in_err-write_hex.result _ _ (search rules) (part_more _ _ (head c.args.output.now ++ encode_lower c.args.output.now) (codes "\n")
    (then_part _ _ _ (head c.args.output.now) (encode_lower c.args.output.now) first c.in_err-write_hex.ensures))

pub returns : goal.returns
returns g c =
    let text : c.as_bytes-count.result.now ≡ decimal (length c.args.output.now) = search rules in
    let first : WroteAll (g.W.Sink.log c.args.out.now) (g.W.Sink.log c.write_parts.new.out) (head c.args.output.now) = rw (← text) c.in_ok-write_parts.ensures in
    let both = then_all _ _ _ (head c.args.output.now) (encode_lower c.args.output.now) first c.in_ok-write_hex.ensures in
    then_writes _ _ _ c.write_parts-2.result (head c.args.output.now ++ encode_lower c.args.output.now) (codes "\n") both c.write_parts-2.ensures
