use Rattle.std.proofs.Common.{◌≡◌, ◌==◌, ◌∙◌, ◌%◌, sym, ap, false, Err, arith}
use Rattle.std.proofs.lemmas.Bool.{cond-false}
use Rattle.mte_tags.specs.Accesses.{fetch_result}
use Rattle.mte_tags.proofs.by_page.fetch_word.Goals as goal

pub returns-then-pc-ne0-clause-answer : goal.returns-then-pc-ne0-clause-answer
unfolding fetch_result
returns-then-pc-ne0-clause-answer g c =
    let no : (c.args.pc % 4 == 0) ≡ false = grind (arith, c.if-pc-ne0.true) in
    ap (λ e. Err e) c.unaligned_fetch.ensures ∙ sym (cond-false _ _ _ no)
