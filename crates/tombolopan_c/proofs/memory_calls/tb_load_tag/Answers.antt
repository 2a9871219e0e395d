use Rattle.std.proofs.Common.{◌∙◌, ◌==◌, sym, ap, refl, None, Some, eq-eqb}
use Rattle.std.proofs.lemmas.Bool.{cond-true, cond-false}
use Rattle.a64_bits.specs.Addresses.{plain}
use Rattle.mte_tags.specs.Memory.{tag_at}
use Rattle.tombolopan_c.proofs.Tags.{loaded_ok}
use Rattle.tombolopan_c.proofs.memory_calls.tb_load_tag.Goals as goal

pub returns-in-Ok-clause-tag : goal.returns-in-Ok-clause-tag
returns-in-Ok-clause-tag c =
    loaded_ok _ _ _ c.in-Ok.ensures.answer
    ∙ ap (λ m. tag_at m (plain c.args.addr)) c.new-memory.ensures.memory
    ∙ sym (cond-true _ _ _ (eq-eqb _ _ (c.report.ensures.code None refl)))

pub returns-in-Err-clause-tag : goal.returns-in-Err-clause-tag
returns-in-Err-clause-tag c = sym (cond-false _ _ _ (ap (λ k. k == 0) (c.report-in-Err.ensures.code (Some c.in-Err.found) refl)))
