-- What is told of a traced run.
use Rattle.std.proofs.Common.{◌≡◌, ◌≤◌, ◌∙◌, length, None, true, false, sym, ap, subst}
use Rattle.mte_tags.specs.Memory.{Memory}
use Rattle.a64_registers.specs.declared.registers.Regs.{Regs}
use Rattle.tombolopan.specs.Traces.{Trace, trace_of, Arrays, Holds, IsTraced, IsFull}
use Rattle.tombolopan.specs.declared.trace_request.TraceRequest.{TraceRequest}
use Rattle.tombolopan.specs.declared.traced_run.TraceEnd.{TraceEnd}
use Rattle.tombolopan_c.specs.LentTraces.{end_report, HasTraced}
use Rattle.tombolopan_c.specs.declared.traces.TraceReport.{TraceReport}

pub has_traced : (q : TraceRequest) (r0 r1 : Regs) (m0 m1 : Memory) (old now : Arrays) (e : TraceEnd) (r r' : Regs) (m : Memory) (t : TraceReport)
    → r0 ≡ r1 → m0 ≡ m1 → r' ≡ r → t ≡ end_report e → IsTraced q r0 m0 old e r m now → e.steps ≤ q.steps
    → (e.outcome ≡ None → e.reached ≡ false → e.full ≡ false → e.steps ≡ q.steps)
    → (e.full ≡ true → IsFull e (length old.instructions) (length old.accesses))
    → HasTraced q r1 m1 old t r' now
has_traced q r0 r1 m0 m1 old now e r r' m t f g h told i within whole full =
    let n = e.steps in
    let steps : t.steps ≡ n = ap (λ (x : TraceReport). x.steps) told in
    let same : trace_of n q r0 m0 ≡ trace_of t.steps q r1 m1 =
    ap (λ x. trace_of n q x m0) f ∙ ap (λ x. trace_of n q r1 x) g ∙ ap (λ k. trace_of k q r1 m1) (sym steps) in
    let counted : Holds (trace_of n q r0 m0).instructions old.instructions now.instructions t.instructions =
    subst (λ k. Holds (trace_of n q r0 m0).instructions old.instructions now.instructions k) (sym (ap (λ (x : TraceReport). x.instructions) told)) i.instructions in
    let made : Holds (trace_of n q r0 m0).accesses old.accesses now.accesses t.accesses =
    subst (λ k. Holds (trace_of n q r0 m0).accesses old.accesses now.accesses k) (sym (ap (λ (x : TraceReport). x.accesses) told)) i.accesses in
    record {
      end = e;
      told = told;
      regs = h ∙ i.regs ∙ ap (λ (x : Trace). x.regs) same;
      outcome = i.outcome ∙ ap (λ (x : Trace). x.outcome) same;
      reached = i.reached ∙ ap (λ (x : Trace). x.reached) same;
      instructions = subst (λ (x : Trace). Holds x.instructions old.instructions now.instructions t.instructions) same counted;
      accesses = subst (λ (x : Trace). Holds x.accesses old.accesses now.accesses t.accesses) same made;
      within = subst (λ k. k ≤ q.steps) (sym steps) within;
      whole = λ a b c. steps ∙ whole a b c;
      full = full;
    }
