use Rattle.std.proofs.Common.{◌≡◌, ◌*◌, ◌+◌, ◌-◌, ◌^◌, ◌<◌, length, drop}
use Rattle.std.specs.List.{list_all}
use Rattle.mte_script.specs.Scripts.{digits_value, is_digit}
use Rattle.mte_script.proofs.text.decimal.Given as goal

abbrev pub invariant-loop-byte : goal.invariant-loop-byte
invariant-loop-byte l = record {
  rest : l.value * 10 ^ (length l.word - l.byte-index) + digits_value (drop l.byte-index l.word) ≡ digits_value l.word;
  digits : list_all is_digit (drop l.byte-index l.word) ≡ list_all is_digit l.word;
  below : l.value < 10 ^ l.byte-index;
}
