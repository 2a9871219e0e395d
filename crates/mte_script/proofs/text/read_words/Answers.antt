use Rattle.std.proofs.Common.{◌≡◌, ◌+◌, ◌-◌, true, false, drop, ap, ◌∙◌, arith, rules}
use Rattle.std.proofs.lemmas.List.{drop-drop}
use Rattle.mte_script.proofs.LineLemmas.{word_len, is_last, goes_on, ends_here, words_on, words_end, last_not, last_lf, last_past}
use Rattle.mte_script.proofs.text.read_words.Goals.{then-end-script-via-then-end-script, then-end-script-via-else-end-script+then-script-end-eq10}
use Rattle.mte_script.proofs.text.read_words.Goals as goal

pub returns-then-end-script-clause-words : goal.returns-then-end-script-clause-words
returns-then-end-script-clause-words c =
    let t = drop c.loop-at.at c.args.script.now in
    let last : is_last t ≡ true = elim c.then-end-script.branch [
      | then-end-script-via-then-end-script w ↦ last_past c.args.script.now c.loop-at.at _ c.word_end-end.ensures.end w.if-end-script.true
      | then-end-script-via-else-end-script+then-script-end-eq10 w ↦ last_lf c.args.script.now c.loop-at.at _ c.word_end-end.ensures.end w.if-end-script.false (search rules)
    ] in
    let len : c.word_end-end.result - c.loop-at.at ≡ word_len t = let e = c.word_end-end.ensures.end in omega arith in
    words_end t _ _ _ last (rw len at c.add_word-count.ensures.words) c.loop-at.invariant.read

pub returns-then-end-script-clause-end : goal.returns-then-end-script-clause-end
returns-then-end-script-clause-end c =
    let t = drop c.loop-at.at c.args.script.now in
    let last : is_last t ≡ true = elim c.then-end-script.branch [
      | then-end-script-via-then-end-script w ↦ last_past c.args.script.now c.loop-at.at _ c.word_end-end.ensures.end w.if-end-script.true
      | then-end-script-via-else-end-script+then-script-end-eq10 w ↦ last_lf c.args.script.now c.loop-at.at _ c.word_end-end.ensures.end w.if-end-script.false (search rules)
    ] in
    let size = (ends_here t last).1 in
    let e = c.word_end-end.ensures.end in
    let inv = c.loop-at.invariant.end in
    omega arith

pub loop-at-preserved : goal.loop-at-preserved
loop-at-preserved c =
    let t = drop c.loop-at.at c.args.script.now in
    let other : is_last t ≡ false = last_not c.args.script.now c.loop-at.at _ c.word_end-end.ensures.end c.if-end-script.false (search rules) in
    let len : c.word_end-end.result - c.loop-at.at ≡ word_len t = let e = c.word_end-end.ensures.end in omega arith in
    let place : c.loop-at.at + (word_len t + 1) ≡ c.word_end-end.result + 1 = let e = c.word_end-end.ensures.end in omega arith in
    let same : drop (word_len t + 1) t ≡ drop (c.word_end-end.result + 1) c.args.script.now =
    drop-drop (word_len t + 1) c.loop-at.at c.args.script.now ∙ ap (λ i. drop i c.args.script.now) place in
    let read = words_on t _ _ _ other (rw len at c.add_word-count.ensures.words) c.loop-at.invariant.read in
    let size = (goes_on t other).1 in
    let left = rw same at size in
    let inv = c.loop-at.invariant.end in
    record {
      read = rw same at read;
      end = omega arith;
      few = c.add_word-count.ensures.count;
      within = omega arith;
    }
