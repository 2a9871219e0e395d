use Rattle.std.proofs.Common.{◌≡◌, ◌<◌, get_or, arith, ◌∙◌}
use Rattle.std.specs.Char.{digit_value}
use Rattle.std.proofs.lemmas.Int.Digits.{digits_value_more, digits_more}
use Rattle.gdb_packets.proofs.NumberLemmas.{AllDigits-at, next_small, next_fits}
use Rattle.gdb_packets.proofs.digits.digits_number.Goals as goal

pub returns-in_err-digit : goal.returns-in_err-digit
returns-in_err-digit c =
    let other = rw c.from.ensures at c.in_err-digit.ensures.value in
    rw c.from_residual.ensures (λ all. other (AllDigits-at c.args.text.now c.loop-byte.byte-index c.loop-byte-test.true all))

pub overflow_mul-value : goal.overflow_mul-value
overflow_mul-value c =
    let l = c.loop-byte in
    omega (arith, next_fits l.value 0 l.byte-index l.invariant.small (omega arith) (omega arith))

pub overflow_add-value : goal.overflow_add-value
overflow_add-value c =
    let l = c.loop-byte in
    let value = c.in_ok-digit.ensures.value in
    let low : c.from-in-loop-byte.result < 16 = omega (arith, value.0, value.1, c.from-in-loop-byte.ensures) in
    omega (arith, next_fits l.value c.from-in-loop-byte.result l.byte-index l.invariant.small low (omega arith))

pub loop-byte-preserved : goal.loop-byte-preserved
loop-byte-preserved c =
    let l = c.loop-byte in
    let text = c.args.text.now in
    let value = rw c.from.ensures at c.in_ok-digit.ensures.value in
    let digit : c.from-in-loop-byte.result ≡ digit_value (get_or text l.byte-index 0) = c.from-in-loop-byte.ensures ∙ value.1 in
    let more = digits_value_more 16 text l.byte-index c.loop-byte-test.true in
    record {
      value = omega (arith, more, digit, l.invariant.value);
      digits = digits_more 16 text l.byte-index c.loop-byte-test.true l.invariant.digits value.0;
      small = next_small l.value c.from-in-loop-byte.result l.byte-index l.invariant.small (omega (arith, value.0, digit));
    }
