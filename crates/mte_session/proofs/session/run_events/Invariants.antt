use Rattle.std.proofs.Common.{◌≡◌, ◌≤◌, ◌+◌, length, map, drop, []}
use Rattle.std.specs.Prelude.{vec_len, vec_capacity}
use Rattle.mte_sched.specs.Hosts.{content_of}
use Rattle.mte_session.specs.Sessions.{calls_of}
use Rattle.mte_session.specs.Progress.{run_all}
use Rattle.mte_session.proofs.SessionLemmas.{at}
use Rattle.mte_session.proofs.session.run_events.Given as goal

abbrev pub invariant-loop-before : goal.invariant-loop-before
invariant-loop-before g l = record {
  run :
      run_all (at (content_of l.host) l.refused.items) (calls_of (map (λ f. f.items) l.files) (drop l.before l.events)) (l.before + 1)
      ≡ run_all (at (content_of l.fn.host) []) (calls_of (map (λ f. f.items) l.files) l.events) 1;
  few : vec_len l.refused ≤ l.before;
  room : vec_capacity l.refused ≡ length l.events;
}
