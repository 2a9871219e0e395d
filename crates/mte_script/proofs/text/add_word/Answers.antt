use Rattle.std.proofs.Common.{◌≡◌, ◌≤◌, length, map, take, arith}
use Rattle.std.proofs.lemmas.List.{length-map, length-take}
use Rattle.mte_script.proofs.LineLemmas.{add_none, add_over}
use Rattle.mte_script.proofs.text.add_word.Goals.{then-is_empty-via-then-is_empty, then-is_empty-via-else-is_empty+then-count-ge-WORD_LIMIT}
use Rattle.mte_script.proofs.text.add_word.Goals as goal

pub returns-then-is_empty-clause-words : goal.returns-then-is_empty-clause-words
returns-then-is_empty-clause-words c = elim c.then-is_empty.branch [
  | then-is_empty-via-then-is_empty w ↦
      let few : length (map (λ w. w.now) (take c.args.count c.args.words.now)) ≤ 14 = simp (length-map, length-take) (omega arith) in
      add_none _ c.args.word.now few (grind arith)
  | then-is_empty-via-else-is_empty+then-count-ge-WORD_LIMIT w ↦
      let full : length (map (λ w. w.now) (take c.args.count c.args.words.now)) ≡ 14 = simp (length-map, length-take) (omega arith) in
      add_over _ _ full
]
