use Rattle.std.proofs.Common.{◌≡◌, ◌∙◌, ap, drop, ◌≢◌, arith, rules, ◌≤◌, ◌+◌, length, take}
use Rattle.std.proofs.Common.{length-take, length-append, ◌++◌}
use Rattle.std.proofs.lemmas.List.{take-append-le}
use Rattle.mte_streams.specs.Reading.{ReadLog}
use Rattle.mte_streams.proofs.ReadLemmas.{gave_more, one_more_read}
use Rattle.mte_streams.proofs.reading.read_whole.Goals as goal

pub loop-preserved : goal.loop-preserved
loop-preserved g c =
    let count : c.in-Ok.count ≤ length c.read.new.buffer = c.in-Ok.ensures.count in
    let items : c.append.new.whole.items ≡ c.loop.whole.items ++ take c.in-Ok.count (c.read.new.buffer ++ drop c.min-wanted.result c.loop.chunk) = search rules in
    let short = take-append-le c.in-Ok.count c.read.new.buffer (drop c.min-wanted.result c.loop.chunk) count in
    let grown : c.append.new.whole.items ≡ c.loop.whole.items ++ take c.in-Ok.count c.read.new.buffer = items ∙ ap (λ t. c.loop.whole.items ++ t) short in
    let long : length c.append.new.whole.items ≡ length c.loop.whole.items + c.in-Ok.count = ap length grown ∙ simp (length-append, length-take) (omega arith) in
    let some : c.in-Ok.count ≢ 0 = c.in-Ok.count-test.1 in
    record {
      gave = rw grown (gave_more _ _ _ c.loop.whole.items c.read.new.buffer c.loop.counter c.in-Ok.count some c.loop.invariant.gave c.in-Ok.ensures.log);
      progress = omega arith;
      within = omega arith;
      room = search rules;
      chunk = omega arith;
    }

pub returns-in-Err-clause-calls : goal.returns-in-Err-clause-calls
returns-in-Err-clause-calls g c =
    one_more_read _ _ _ c.loop.whole.items c.loop.counter _ (omega arith) c.loop.invariant.gave (ap (λ (l : ReadLog). l.calls) c.in-Err.ensures.log)

pub returns-in-Ok-eq0-clause-calls : goal.returns-in-Ok-eq0-clause-calls
returns-in-Ok-eq0-clause-calls g c =
    one_more_read _ _ _ c.loop.whole.items c.loop.counter _ (omega arith) c.loop.invariant.gave (ap (λ (l : ReadLog). l.calls) c.in-Ok-eq0.ensures.log)

pub returns-then-len-count-gt-FILE_LIMIT-clause-calls : goal.returns-then-len-count-gt-FILE_LIMIT-clause-calls
returns-then-len-count-gt-FILE_LIMIT-clause-calls g c =
    one_more_read _ _ _ c.loop.whole.items c.loop.counter _ (omega arith) c.loop.invariant.gave (ap (λ (l : ReadLog). l.calls) c.in-Ok.ensures.log)

pub returns-in_err-make_room-in-Ok-clause-calls : goal.returns-in_err-make_room-in-Ok-clause-calls
returns-in_err-make_room-in-Ok-clause-calls g c =
    one_more_read _ _ _ c.loop.whole.items c.loop.counter _ (omega arith) c.loop.invariant.gave (ap (λ (l : ReadLog). l.calls) c.in-Ok.ensures.log)

pub returns-then-len-count-gt-FILE_LIMIT-clause-too_long : goal.returns-then-len-count-gt-FILE_LIMIT-clause-too_long
returns-then-len-count-gt-FILE_LIMIT-clause-too_long g c =
    let after = gave_more _ _ _ c.loop.whole.items c.read.new.buffer c.loop.counter c.in-Ok.count c.in-Ok.count-test.1 c.loop.invariant.gave c.in-Ok.ensures.log in
    let count : c.in-Ok.count ≤ length c.read.new.buffer = c.in-Ok.ensures.count in
    λ _. record { bytes = _; given = after.given; more = simp (length-append, length-take) (omega arith) }

pub returns-in_err-make_room-in-Ok-clause-within : goal.returns-in_err-make_room-in-Ok-clause-within
returns-in_err-make_room-in-Ok-clause-within g c =
    let after = gave_more _ _ _ c.loop.whole.items c.read.new.buffer c.loop.counter c.in-Ok.count c.in-Ok.count-test.1 c.loop.invariant.gave c.in-Ok.ensures.log in
    let count : c.in-Ok.count ≤ length c.read.new.buffer = c.in-Ok.ensures.count in
    λ _. record { bytes = _; given = after.given; most = simp (length-append, length-take) (omega arith) }
