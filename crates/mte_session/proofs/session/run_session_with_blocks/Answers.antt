use Rattle.std.proofs.Common.{map}
use Rattle.std.proofs.lemmas.List.{length-map}
use Rattle.mte_sched.specs.Hosts.{content_of}
use Rattle.mte_session.proofs.SessionLemmas.{session_text_is}
use Rattle.mte_session.proofs.session.run_session_with_blocks.Goals as goal

pub returns-clause-failed : goal.returns-clause-failed
returns-clause-failed g c =
    let text = session_text_is c.ledger_follows.ensures c.tenants_are_alone.ensures c.args.frames (map (λ f. f.items) c.args.files.now) c.in_ok-events.events.items (content_of c.run_events.new.host) c.in_ok-refused.refused.items
    (rw (← c.in-Ok.ensures.ok) (rw c.as_slice.ensures.value at c.in_ok-refused.ensures.played)) in
    record {
      events = c.in_ok-events.events.items;
      read = rw (length-map c.args.files.now (λ f. f.items)) c.in_ok-events.ensures.events;
      wrote = rw text (rw c.as_slice-2.ensures.value at c.in-Err.ensures);
    }

pub returns-in-Ok-write_session-clause-done : goal.returns-in-Ok-write_session-clause-done
returns-in-Ok-write_session-clause-done g c =
    let text = session_text_is c.ledger_follows.ensures c.tenants_are_alone.ensures c.args.frames (map (λ f. f.items) c.args.files.now) c.in_ok-events.events.items (content_of c.run_events.new.host) c.in_ok-refused.refused.items
    (rw (← c.in-Ok.ensures.ok) (rw c.as_slice.ensures.value at c.in_ok-refused.ensures.played)) in
    record {
      events = c.in_ok-events.events.items;
      read = rw (length-map c.args.files.now (λ f. f.items)) c.in_ok-events.ensures.events;
      wrote = rw text (rw c.as_slice-2.ensures.value at c.in-Ok-write_session.ensures);
    }
