use Rattle.std.proofs.Common.{◌≡◌, ◌+◌, ◌==◌, false, drop, get_or, ◌∙◌, sym, refl, arith}
use Rattle.std.proofs.lemmas.Bool.{ne_eqb, eq-eqb}
use Rattle.mte_script.proofs.LineLemmas.{word_len, found_lf, found_space, end_step, end_text}
use Rattle.mte_script.proofs.text.word_end.Goals.{then-byte-eq32-via-then-byte-eq32, then-byte-eq32-via-else-byte-eq32+then-byte-eq10}
use Rattle.mte_script.proofs.text.word_end.Goals as goal

pub loop-i-preserved-then-byte-gt32 : goal.loop-i-preserved-then-byte-gt32
loop-i-preserved-then-byte-gt32 c =
    let line : (get_or c.args.text.now c.loop-i.i 0 == 10) ≡ false = grind arith in
    let space : (get_or c.args.text.now c.loop-i.i 0 == 32) ≡ false = grind arith in
    sym (end_step c.args.text.now c.loop-i.i 0 c.loop-i-test.true line space) ∙ c.loop-i.invariant

pub returns-then-byte-eq32-clause-end : goal.returns-then-byte-eq32-clause-end
returns-then-byte-eq32-clause-end c =
    let found : c.loop-i.i + word_len (drop c.loop-i.i c.args.text.now) ≡ c.loop-i.i = elim c.then-byte-eq32.branch [
      | then-byte-eq32-via-then-byte-eq32 w ↦ found_space c.args.text.now c.loop-i.i 0 _ c.loop-i-test.true refl (eq-eqb _ _ w.if-byte-eq32.true)
      | then-byte-eq32-via-else-byte-eq32+then-byte-eq10 w ↦ found_lf c.args.text.now c.loop-i.i 0 c.loop-i-test.true (eq-eqb _ _ w.if-byte-eq10.true)
    ] in
    sym found ∙ c.loop-i.invariant

pub loop-i-preserved : goal.loop-i-preserved
loop-i-preserved c =
    sym (end_step c.args.text.now c.loop-i.i 0 c.loop-i-test.true (ne_eqb _ _ c.if-byte-eq10.false) (ne_eqb _ _ c.if-byte-eq32.false))
    ∙ c.loop-i.invariant

pub returns-clause-end : goal.returns-clause-end
returns-clause-end c = sym (end_text c.args.text.now c.loop-i.i (omega arith) (omega arith)) ∙ c.loop-i.invariant
