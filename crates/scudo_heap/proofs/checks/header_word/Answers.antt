use Rattle.std.proofs.Common.{◌∙◌, ◌-◌, is_ok, ap, arith}
use Rattle.std.proofs.lemmas.Bool.{cond-true}
use Rattle.std.specs.Int.{from_le_bytes, w64}
use Rattle.mte_tags.specs.Accesses.{result_of}
use Rattle.scudo_heap.proofs.OpenLemmas.{either_way, word_readable}
use Rattle.scudo_heap.proofs.checks.header_word.Goals as goal

pub returns-clause-memory : goal.returns-clause-memory
returns-clause-memory g c =
    c.read.ensures.memory ∙ either_way (is_ok c.read.result) (g.M.Tagged.memory c.args.memory.now) (c.args.user - 16) 8

pub returns-clause-word : goal.returns-clause-word
returns-clause-word g c =
    let m = g.M.Tagged.memory c.args.memory.now in
    let none = word_readable m (c.args.user - 16) c.requires.mapped (omega (arith, c.requires.user.plain)) (omega (arith, c.requires.user.aligned, c.requires.above)) in
    c.from_le_bytes.ensures ∙ ap (from_le_bytes w64) (c.read.ensures.bytes ∙ cond-true _ _ _ (ap is_ok (c.read.ensures.answer ∙ ap result_of none)))
