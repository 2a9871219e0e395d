use Rattle.std.proofs.Common.{◌≡◌, ◌<◌, ◌^◌, take}
use Rattle.std.specs.Str.Parse.{digits_value, AllDigits}
use Rattle.gdb_packets.proofs.digits.digits_number.Given as goal

-- The number of the digits so far.
abbrev pub invariant-loop-byte : goal.invariant-loop-byte
invariant-loop-byte l = record {
  value : l.value ≡ digits_value 16 (take l.byte-index l.text);
  digits : AllDigits 16 (take l.byte-index l.text);
  small : l.value < 16 ^ l.byte-index;
}
