use Rattle.std.proofs.Common.{length, Some, sym, ap, ◌∙◌, refl}
use Rattle.std.specs.Prelude.{option_map}
use Rattle.tenant_snapshot.specs.Maps.{is_map_length}
use Rattle.tombolopan_c.proofs.Fuzzed.{has_run}
use Rattle.tombolopan_c.proofs.fuzz_calls.run_kept.Goals as goal

pub returns-in-Some-clause-ran : goal.returns-in-Some-clause-ran
returns-in-Some-clause-ran c =
    has_run c.args.run.now (is_map_length (length c.args.map.now)) c.args.fuzz.now.value c.put.new.self.value c.answer-told.result.end
    c.deref_mut.result.now c.answer-told.new.machine c.answer-told.result.end
    (sym c.take.ensures.taken ∙ ap (option_map (λ b. b.value)) c.in-Some.is ∙ ap Some (sym c.deref_mut.ensures.value))
    c.put.ensures refl c.answer-told.ensures.saved c.answer-told.ensures.answered
