use Rattle.std.proofs.Common.{◌≡◌, ◌≤◌, ◌-◌, take, map, length}
use Rattle.tombolopan_c.specs.LoneTenants.{call_told}
use Rattle.tombolopan_c.proofs.kept_calls.told_calls.Given as goal

abbrev pub decreases-loop-i : goal.decreases-loop-i
decreases-loop-i l = length l.calls.last - l.i

abbrev pub invariant-loop-i : goal.invariant-loop-i
invariant-loop-i l = record {
  within : l.i ≤ length l.calls.last;
  told : l.told.items ≡ map call_told (take l.i l.calls.last);
}
