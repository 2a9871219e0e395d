use Rattle.std.proofs.Common.{◌≡◌, map, drop}
use Rattle.mte_sched.specs.Hosts.{content_of, ledger_in}
use Rattle.mte_session.specs.Sessions.{calls_of, session_of}
use Rattle.command_run.proofs.ReplayLemmas.{Known}
use Rattle.command_run.proofs.replay.replay_tenant.Given as goal

abbrev pub invariant-loop-before : goal.invariant-loop-before
invariant-loop-before g l = record {
  frames : (content_of l.host).frames ≡ (content_of l.fn.host).frames;
  known :
      Known l.id (map (λ f. f.items) l.files) (session_of (content_of l.fn.host).frames (map (λ f. f.items) l.files) l.events)
      (ledger_in l.host) (calls_of (map (λ f. f.items) l.files) (drop l.before l.events)) l.replayed;
}
