use Rattle.std.proofs.Common.{◌≡◌, ◌≤◌, ◌+◌, ◌-◌, ◌++◌, length, map, take, drop}
use Rattle.mte_script.specs.Scripts.{words_of}
use Rattle.mte_script.specs.Lines.{line_of}
use Rattle.mte_script.proofs.text.read_words.Given as goal

abbrev pub decreases-loop-at : goal.decreases-loop-at
decreases-loop-at l = length l.script + 1 - l.at

abbrev pub invariant-loop-at : goal.invariant-loop-at
invariant-loop-at l = record {
  read : take 14 (map (λ w. w.now) (take l.count l.words) ++ words_of (line_of (drop l.at l.script))) ≡ take 14 (words_of (line_of (drop l.start l.script)));
  end : l.at + length (line_of (drop l.at l.script)) ≡ l.start + length (line_of (drop l.start l.script));
  few : l.count ≤ 14;
  within : l.at ≤ length l.script;
}
