use Rattle.std.proofs.Common.{◌≡◌, ◌<◌, ◌+◌, ◌++◌, ◌&&◌, is_none, sym, ap, subst, ◌∙◌}
use Rattle.std.specs.Result.{result_ok}
use Rattle.mte_tags.specs.Memory.{Memory}
use Rattle.mte_tags.specs.Accesses.{fetch_result}
use Rattle.a64_registers.specs.declared.registers.Regs.{Regs}
use Rattle.a64_step.specs.Results.{Stepped}
use Rattle.a64_step.specs.Steps.{step_of}
use Rattle.a64_step.proofs.Effects.{step_orderly}
use Rattle.tombolopan.specs.InstructionAccesses.{accesses_of_step, completed, entered_access, next_access}
use Rattle.tombolopan.specs.Traces.{arrays, listed, fetched, is_stop, stopping, trace_of, after_step, Trace, Holds, IsTraced}
use Rattle.tombolopan.proofs.Entering.{trace_next}
use Rattle.tombolopan.proofs.traced_run.advance.Goals as goal

pub returns-clause-traced : goal.returns-clause-traced
returns-clause-traced g c = λ r0 m0 old h.
    let q = c.args.progress.now.request.now in
    let n = c.args.progress.now.end.steps in
    let r = c.args.regs.now in
    let m = g.M.Tagged.memory c.args.memory.now in
    let t = trace_of n q r0 m0 in
    let left = c.attempt-word.ensures.leaves in
    let after = c.attempt-word.new in
    let next : trace_of (n + 1) q r0 m0 ≡ after_step q n (step_of t.regs t.memory) t =
    trace_next n q r0 m0 (sym h.outcome ∙ c.requires.running) (sym h.reached ∙ c.requires.passing) in
    let same : step_of r m ≡ step_of t.regs t.memory =
    ap (λ x. step_of x m) h.regs ∙ ap (λ x. step_of t.regs x) h.memory in
    let items : t.instructions ++ fetched q n r.pc c.attempt-word.result ≡ (trace_of (n + 1) q r0 m0).instructions =
    ap (λ o. t.instructions ++ fetched q n r.pc o) c.attempt-word.ensures.word
    ∙ ap (λ (x : Memory). t.instructions ++ fetched q n r.pc (result_ok (fetch_result x r.pc))) h.memory
    ∙ ap (λ (x : Regs). t.instructions ++ fetched q n x.pc (result_ok (fetch_result t.memory x.pc))) h.regs
    ∙ sym (ap (λ (x : Trace). x.instructions) next) in
    let mem = g.M.Tagged.memory after.memory in
    let made : t.accesses ++ listed c.entry_of-entry.result ≡ (trace_of (n + 1) q r0 m0).accesses =
    ap (λ l. t.accesses ++ l)
    (c.entry_of-entry.ensures.entry
    ∙ ap (λ a. entered_access q n r.pc after.regs mem a) c.completed-made.ensures
    ∙ ap (λ a. entered_access q n r.pc after.regs mem (completed after.outcome a)) c.attempt-word.ensures.access
    ∙ ap (λ o. entered_access q n r.pc after.regs mem (completed o (next_access r m))) left.outcome
    ∙ ap (λ (x : Regs). entered_access q n r.pc x mem (completed (step_of r m).outcome (next_access r m))) left.regs
    ∙ ap (λ (x : Memory). entered_access q n r.pc (step_of r m).regs x (completed (step_of r m).outcome (next_access r m))) left.memory
    ∙ ap (λ (s : Stepped). accesses_of_step q n r m s) same
    ∙ ap (λ (x : Memory). accesses_of_step q n r x (step_of t.regs t.memory)) h.memory
    ∙ ap (λ (x : Regs). accesses_of_step q n x t.memory (step_of t.regs t.memory)) h.regs)
    ∙ sym (ap (λ (x : Trace). x.accesses) next) in
    subst (λ e. IsTraced q r0 m0 old e after.regs (g.M.Tagged.memory c.entry_of-entry.new.memory) (arrays c.enter_instruction-end.new.instructions c.enter_access-end.new.accesses))
    (sym c.note_outcome.ensures)
    (record {
      regs = left.regs ∙ ap (λ (s : Stepped). s.regs) same ∙ sym (ap (λ (x : Trace). x.regs) next);
      memory = c.entry_of-entry.ensures.memory ∙ left.memory ∙ ap (λ (s : Stepped). s.memory) same ∙ sym (ap (λ (x : Trace). x.memory) next);
      outcome = ap stopping left.outcome ∙ ap (λ (s : Stepped). stopping s.outcome) same ∙ sym (ap (λ (x : Trace). x.outcome) next);
      reached =
          ap (λ o. is_none (stopping o) && is_stop q.stops.now after.regs.pc) left.outcome
          ∙ ap (λ (x : Regs). is_none (stopping (step_of r m).outcome) && is_stop q.stops.now x.pc) left.regs
          ∙ ap (λ (s : Stepped). is_none (stopping s.outcome) && is_stop q.stops.now s.regs.pc) same
          ∙ sym (ap (λ (x : Trace). x.reached) next);
      instructions =
          subst (λ l. Holds l old.instructions c.enter_instruction-end.new.instructions c.enter_instruction-end.result) items
          (c.enter_instruction-end.ensures t.instructions old.instructions h.instructions);
      accesses =
          subst (λ l. Holds l old.accesses c.enter_access-end.new.accesses c.enter_access-end.result) made
          (c.enter_access-end.ensures t.accesses old.accesses h.accesses);
    })

pub returns-clause-tag : goal.returns-clause-tag
returns-clause-tag g c = λ below.
    subst (λ (x : Regs). x.rgsr.tag < 16) (sym c.attempt-word.ensures.leaves.regs)
    ((step_orderly c.args.regs.now (g.M.Tagged.memory c.args.memory.now)).tag below)
