use Rattle.std.proofs.Common.{Some, sym, ap, ◌∙◌}
use Rattle.std.specs.Prelude.{option_map}
use Rattle.tombolopan_c.proofs.Fuzzed.{has_read}
use Rattle.tombolopan_c.proofs.compare_calls.tb_fuzz_read.Goals as goal

pub returns-in-Some : goal.returns-in-Some
returns-in-Some c =
    has_read c.args.addr c.args.fuzz.now.value c.put.new.self.value c.args.buffer.now c.read-answer.new.buffer c.report.result
    c.deref_mut.result.now c.read-answer.new.self c.read-answer.result
    (sym c.take.ensures.taken ∙ ap (option_map (λ b. b.value)) c.in-Some.is ∙ ap Some (sym c.deref_mut.ensures.value))
    c.put.ensures c.read-answer.ensures.machine c.read-answer.ensures.saved c.read-answer.ensures.answer
    (c.report.ensures.code _ c.read-answer.ensures.answer) c.read-answer.ensures.bytes
