use Rattle.std.proofs.Common.{sym, ◌∙◌, map, arith}
use Rattle.mte_sched.specs.Hosts.{content_of}
use Rattle.mte_session.proofs.SessionLemmas.{run_accepted, run_refused, run_end}
use Rattle.mte_session.proofs.session.run_events.Goals.{in-Ok, in-Err-Refused}
use Rattle.mte_session.proofs.session.run_events.Goals as goal

pub loop-before-preserved : goal.loop-before-preserved
loop-before-preserved g c =
    let i = c.loop-before.invariant in
    elim c.match-play.branch [
      | in-Ok w ↦ record {
        run = rw w.refused-is (run_accepted (map (λ f. f.items) c.args.files.now) (content_of c.loop-before.host) (content_of c.play.new.host) c.loop-before.refused.items c.args.events.now c.loop-before.before _ _ c.loop-before-test.true w.in-Ok.ensures.accepted w.in-Ok.ensures.ok i.run);
        few = rw w.refused-is (let a = i.few in omega arith);
        room = rw w.refused-is i.room;
      }
      | in-Err-Refused w ↦
          let refused = rw w.in-Err-Refused.field-0-is at w.in-Err-Refused.ensures.refused in
          let push = w.push_reserved.ensures in
          record {
            run = rw (w.refused-is, push.items) (run_refused (map (λ f. f.items) c.args.files.now) (content_of c.loop-before.host) (content_of c.play.new.host) c.loop-before.refused.items w.in-Err-Refused.refusal c.args.events.now c.loop-before.before _ _ c.loop-before-test.true refused w.in-Err-Refused.ensures.err i.run);
            few = rw w.refused-is (let a = i.few in let b = push.len in omega arith);
            room = rw w.refused-is (push.capacity ∙ i.room);
          }
    ]

pub returns-clause-played : goal.returns-clause-played
returns-clause-played g c = sym (run_end (map (λ f. f.items) c.args.files.now) _ _ c.args.events.now c.loop-before.before _ c.loop-before-test.false c.loop-before.invariant.run)
