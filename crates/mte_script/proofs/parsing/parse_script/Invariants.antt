use Rattle.std.proofs.Common.{◌≡◌, ◌≤◌, ◌+◌, ◌-◌, length, min, vec_capacity}
use Rattle.mte_script.specs.Scripts.{script_events}
use Rattle.mte_script.proofs.ScriptLemmas.{behind, events_from}
use Rattle.mte_script.proofs.LineLemmas.{lines_from}
use Rattle.mte_script.proofs.parsing.parse_script.Given as goal

abbrev pub decreases-loop-next : goal.decreases-loop-next
decreases-loop-next l = length l.script + 1 - l.next

abbrev pub invariant-loop-next : goal.invariant-loop-next
invariant-loop-next l = record {
  rest : behind l.events.items (events_from (length l.files) (lines_from l.script l.next) (l.number + 1) (length l.events.items)) ≡ script_events (length l.files) l.script;
  next : l.next ≤ length l.script + 1;
  number : l.number ≤ l.next;
  few : length l.events.items ≤ l.number;
  most : length l.events.items ≤ 10000;
  room : vec_capacity l.events ≡ min (length l.script + 1) 10000;
}
