use Rattle.std.proofs.Common.{◌≡◌, ◌+◌, drop}
use Rattle.mte_script.proofs.LineLemmas.{word_len}
use Rattle.mte_script.proofs.text.word_end.Given as goal

abbrev pub invariant-loop-i : goal.invariant-loop-i
invariant-loop-i l = l.i + word_len (drop l.i l.text) ≡ l.start + word_len (drop l.start l.text)
