use Rattle.std.proofs.Common.{map}
use Rattle.mte_sched.specs.Hosts.{content_of, ledger_in}
use Rattle.mte_session.specs.Sessions.{session_of}
use Rattle.command_run.proofs.ReplayLemmas.{has_pages, accepted_next, refused_next, all_played}
use Rattle.command_run.proofs.replay.replay_tenant.Goals.{in-Ok+in_ok-replayed-in-Ok, in-Err-Refused+in_ok-tell_refusal-in-Err-Refused}
use Rattle.command_run.proofs.replay.replay_tenant.Goals as goal

pub followed-requires : goal.followed-requires
followed-requires g c = record { some = has_pages _ _ _ c.in-Ok.ensures.accepted }

pub loop-before-preserved : goal.loop-before-preserved
loop-before-preserved g c =
    let i = c.loop-before.invariant in
    let files = map (λ f. f.items) c.args.session.now.files.now in
    let s = session_of (content_of c.args.host.now).frames files c.args.session.now.events.now in
    elim c.match-decide.branch [
      | in-Ok+in_ok-replayed-in-Ok w ↦
          let n = accepted_next c.ledger_follows.ensures c.args.session.now.replay.now.id files s (content_of c.loop-before.host) (content_of c.decide.new.host) c.args.session.now.events.now c.loop-before.before _ c.loop-before.replayed _ c.loop-before-test.true i.frames w.in-Ok.ensures.accepted w.in-Ok.ensures.ok w.in_ok-replayed-in-Ok.ensures.own w.in_ok-replayed-in-Ok.ensures.other i.known in
          record { frames = n.0; known = rw w.replayed-is n.1 }
      | in-Err-Refused+in_ok-tell_refusal-in-Err-Refused w ↦
          let refused = rw w.in-Err-Refused.field-0-is at w.in-Err-Refused.ensures.refused in
          let n = refused_next c.args.session.now.replay.now.id files s (content_of c.loop-before.host) (content_of c.decide.new.host) c.args.session.now.events.now c.loop-before.before _ _ c.loop-before.replayed c.loop-before-test.true i.frames refused w.in-Err-Refused.ensures.err i.known in
          record { frames = n.0; known = rw w.replayed-is n.1 }
    ]

pub returns : goal.returns
returns g c = all_played c.args.session.now.replay.now.id (map (λ f. f.items) c.args.session.now.files.now) _ (ledger_in c.loop-before.host) c.args.session.now.events.now c.loop-before.before c.loop-before.replayed c.loop-before-test.false c.loop-before.invariant.known
