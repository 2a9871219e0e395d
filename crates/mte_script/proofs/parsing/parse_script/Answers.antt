use Rattle.std.proofs.Common.{◌≡◌, ◌+◌, ◌<◌, ◌≤◌, ◌++◌, ◌∷◌, [], length, map, take, drop, None, Ok, Err, ap, sym, arith, rules, refl, ◌∙◌}
use Rattle.std.proofs.lemmas.List.{length_push, length-map, length-take}
use Rattle.mte_script.specs.Scripts.{script_events, lines_of, event_of_line}
use Rattle.mte_script.specs.Lines.{line_of}
use Rattle.mte_script.proofs.ScriptLemmas.{unroll, line_bad, line_skipped, line_empty, refused_first}
use Rattle.mte_script.proofs.ScriptLemmas.{line_taken, line_over, script_end, behind_none, lines_are}
use Rattle.mte_script.proofs.LineLemmas.{lines_first, lines_past, next_line, line_read, line_passed, some_word}
use Rattle.mte_script.proofs.parsing.parse_script.Goals.{then-count-eq0-via-then-count-eq0, then-count-eq0-via-else-count-eq0+then-script-start-eq35}
use Rattle.mte_script.proofs.parsing.parse_script.Goals as goal

pub loop-next-init : goal.loop-next-init
unfolding script_events
loop-next-init c = record {
  rest = rw (c.in_ok-events.ensures.items, lines_first c.args.script.now) (behind_none _ ∙ lines_are (length c.args.files.now) 1 0 (lines_of c.args.script.now));
  next = omega arith;
  number = omega arith;
  few = search rules;
  most = search rules;
  room = search rules;
}

pub bounds-script-start : goal.bounds-script-start
bounds-script-start c =
    let ws = map (λ w. w.now) (take c.read_words-count.result.0 c.read_words-count.new.words) in
    let long = c.read_words-count.ensures.kept in
    let some : 0 < length ws = simp (length-map, length-take) (omega arith) in
    some_word c.args.script.now c.loop-next.next ws c.read_words-count.ensures.words some

pub loop-next-preserved-then-count-eq0 : goal.loop-next-preserved-then-count-eq0
loop-next-preserved-then-count-eq0 c =
    let files = length c.args.files.now in
    let line = line_of (drop c.loop-next.next c.args.script.now) in
    let next = next_line c.args.script.now c.loop-next.next c.read_words-count.result.1 c.loop-next-test.true c.read_words-count.ensures.end in
    let h = unroll files (c.loop-next.number + 1) (length c.loop-next.events.items) c.loop-next.events.items _ line _ _ next c.loop-next.invariant.rest in
    let ws = map (λ w. w.now) (take c.read_words-count.result.0 c.read_words-count.new.words) in
    let skipped : None ≡ event_of_line files line = elim c.then-count-eq0.branch [
      | then-count-eq0-via-then-count-eq0 w ↦
          let none = rw w.if-count-eq0.true at c.read_words-count.ensures.words in
          line_empty files line _ refl (sym none)
      | then-count-eq0-via-else-count-eq0+then-script-start-eq35 w ↦
          let long = c.read_words-count.ensures.kept in
          let some : 0 < length ws = simp (length-map, length-take) (omega arith) in
          line_passed files c.args.script.now c.loop-next.next ws c.read_words-count.ensures.words some w.if-script-start-eq35.true
    ] in
    record {
      rest = line_skipped (c.loop-next.number + 1) (length c.loop-next.events.items) c.loop-next.events.items _ _ _ _ h skipped;
      next = omega arith;
      number = omega arith;
      few = omega (arith, c.loop-next.invariant.few);
      most = c.loop-next.invariant.most;
      room = c.loop-next.invariant.room;
    }

pub returns-in-Err-clause-fault : goal.returns-in-Err-clause-fault
returns-in-Err-clause-fault c =
    let files = length c.args.files.now in
    let line = line_of (drop c.loop-next.next c.args.script.now) in
    let next = next_line c.args.script.now c.loop-next.next c.read_words-count.result.1 c.loop-next-test.true c.read_words-count.ensures.end in
    let h = unroll files (c.loop-next.number + 1) (length c.loop-next.events.items) c.loop-next.events.items _ line _ _ next c.loop-next.invariant.rest in
    let ws = map (λ w. w.now) (take c.read_words-count.result.0 c.read_words-count.new.words) in
    let some : 0 < length ws = simp (length-map, length-take) (grind arith) in
    let event = line_read files c.args.script.now c.loop-next.next ws (Err c.in-Err.fault) c.read_words-count.ensures.words some c.if-script-start-eq35.false (sym c.in-Err.is ∙ c.event_of.ensures) in
    let bad = line_bad (c.loop-next.number + 1) (length c.loop-next.events.items) c.loop-next.events.items _ _ _ _ c.in-Err.fault h event in
    refused_first (c.loop-next.number + 1) c.in-Err.fault _ c.refusal.result bad c.refusal.ensures

pub returns-then-len-ge-EVENT_LIMIT-clause-fault : goal.returns-then-len-ge-EVENT_LIMIT-clause-fault
returns-then-len-ge-EVENT_LIMIT-clause-fault c =
    let files = length c.args.files.now in
    let line = line_of (drop c.loop-next.next c.args.script.now) in
    let next = next_line c.args.script.now c.loop-next.next c.read_words-count.result.1 c.loop-next-test.true c.read_words-count.ensures.end in
    let h = unroll files (c.loop-next.number + 1) (length c.loop-next.events.items) c.loop-next.events.items _ line _ _ next c.loop-next.invariant.rest in
    let ws = map (λ w. w.now) (take c.read_words-count.result.0 c.read_words-count.new.words) in
    let some : 0 < length ws = simp (length-map, length-take) (grind arith) in
    let event = line_read files c.args.script.now c.loop-next.next ws (Ok c.in-Ok.event) c.read_words-count.ensures.words some c.if-script-start-eq35.false (sym c.in-Ok.is ∙ c.event_of.ensures) in
    let many : 10000 ≤ length c.loop-next.events.items = omega arith in
    let over = line_over (c.loop-next.number + 1) (length c.loop-next.events.items) c.loop-next.events.items _ _ _ _ c.in-Ok.event h event many in
    refused_first (c.loop-next.number + 1) _ _ c.refusal-then-len-ge-EVENT_LIMIT.result over c.refusal-then-len-ge-EVENT_LIMIT.ensures

pub loop-next-preserved : goal.loop-next-preserved
loop-next-preserved c =
    let files = length c.args.files.now in
    let line = line_of (drop c.loop-next.next c.args.script.now) in
    let next = next_line c.args.script.now c.loop-next.next c.read_words-count.result.1 c.loop-next-test.true c.read_words-count.ensures.end in
    let h = unroll files (c.loop-next.number + 1) (length c.loop-next.events.items) c.loop-next.events.items _ line _ _ next c.loop-next.invariant.rest in
    let ws = map (λ w. w.now) (take c.read_words-count.result.0 c.read_words-count.new.words) in
    let some : 0 < length ws = simp (length-map, length-take) (grind arith) in
    let event = line_read files c.args.script.now c.loop-next.next ws (Ok c.in-Ok.event) c.read_words-count.ensures.words some c.if-script-start-eq35.false (sym c.in-Ok.is ∙ c.event_of.ensures) in
    let pushed : c.push_reserved.new.self.items ≡ c.loop-next.events.items ++ c.in-Ok.event ∷ [] = c.push_reserved.ensures.items in
    let longer : length c.push_reserved.new.self.items ≡ length c.loop-next.events.items + 1 = ap length pushed ∙ length_push c.loop-next.events.items c.in-Ok.event in
    let few : length c.loop-next.events.items < 10000 = omega arith in
    record {
      rest = rw (pushed, length_push c.loop-next.events.items c.in-Ok.event)
          (line_taken (c.loop-next.number + 1) (length c.loop-next.events.items) c.loop-next.events.items _ _ _ _ c.in-Ok.event h event few);
      next = omega arith;
      number = omega arith;
      few = omega (arith, longer, c.loop-next.invariant.few);
      most = omega (arith, longer, few);
      room = c.push_reserved.ensures.capacity ∙ c.loop-next.invariant.room;
    }

pub returns-clause-events : goal.returns-clause-events
returns-clause-events c =
    script_end (length c.args.files.now) (c.loop-next.number + 1) (length c.loop-next.events.items) c.loop-next.events.items _ _
    (lines_past c.args.script.now c.loop-next.next c.loop-next-test.false) c.loop-next.invariant.rest
