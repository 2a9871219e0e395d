-- A trace without stops is a run.
use Rattle.std.proofs.Common.{◌≡◌, ℕ, zero, suc, ◌+◌, ◌&&◌, ◌⊎◌, inl, inr, List, [], false, not, Option, Some, None, is_none, if◌then◌else◌, refl, sym, ap, ◌∙◌, arith}
use Rattle.mte_tags.specs.Memory.{Memory}
use Rattle.a64_registers.specs.declared.registers.Regs.{Regs}
use Rattle.a64_step.specs.declared.outcome.Outcome.{Outcome}
use Rattle.a64_step.specs.declared.outcome.Outcome.TheVariants.{Next, Svc, Fault, Illegal, Breakpoint}
use Rattle.a64_step.specs.Results.{Stepped}
use Rattle.a64_step.specs.Steps.{step_of, run_of, Ran}
use Rattle.a64_step.proofs.Running.{next_or, run_of-next, run_of-stop, run_of-none, run_of-parts, run_of-first_part}
use Rattle.tombolopan.specs.Traces.{Trace, trace_of, next_trace, after_step, stopping, is_stop, IsRun}
use Rattle.tombolopan.specs.declared.trace_request.TraceRequest.{TraceRequest}
use Rattle.tombolopan.proofs.Entering.{trace_next, trace_none}

some_or : (o : Option Outcome) → (o ≡ None) ⊎ (o ≡ None → ⊥)
some_or None = inl refl
some_or (Some o) = inr (λ e. cc)

stopping-next : (o : Outcome) → o ≡ Next → stopping o ≡ None
stopping-next o e = ap stopping e

stopping-other : (o : Outcome) → (o ≡ Next → ⊥) → stopping o ≡ Some o
stopping-other Next n = absurd (n refl)
stopping-other Svc n = refl
stopping-other (Fault f) n = refl
stopping-other (Illegal w) n = refl
stopping-other (Breakpoint i) n = refl

-- no address is among no stops
no_stop : (stops : List ℕ) (o : Option Outcome) (pc : ℕ) → stops ≡ [] → (is_none o && is_stop stops pc) ≡ false
no_stop stops None pc e = ap (λ l. is_stop l pc) e
no_stop stops (Some o) pc e = refl

-- a run of one step
one_step : (r : Regs) (m : Memory) → ((run_of 1 r m).regs ≡ (step_of r m).regs) × ((run_of 1 r m).memory ≡ (step_of r m).memory) × (stopping (step_of r m).outcome ≡ (run_of 1 r m).stop.outcome)
one_step r m = elim (next_or (step_of r m).outcome) [
  | inl o ↦
      let s = step_of r m in
      let e = run_of-next 1 r m (omega arith) o ∙ run_of-none 0 s.regs s.memory refl in
      (ap (λ (x : Ran). x.regs) e, ap (λ (x : Ran). x.memory) e, stopping-next s.outcome o ∙ sym (ap (λ (x : Ran). x.stop.outcome) e))
  | inr o ↦
      let s = step_of r m in
      let e = run_of-stop 1 r m (omega arith) o in
      (ap (λ (x : Ran). x.regs) e, ap (λ (x : Ran). x.memory) e, stopping-other s.outcome o ∙ sym (ap (λ (x : Ran). x.stop.outcome) e))
]

none_false : (o : Option Outcome) → (o ≡ None → ⊥) → is_none o ≡ false
none_false None n = absurd (n refl)
none_false (Some o) n = refl

-- a trace that has ended makes no step more
stays : (q : TraceRequest) (k : ℕ) (t : Trace) → (t.outcome ≡ None → ⊥) → next_trace q k t ≡ t
stays q k t h = ap (λ b. if b && not t.reached then after_step q k (step_of t.regs t.memory) t else t) (none_false t.outcome h)

trace_suc : (n : ℕ) (q : TraceRequest) (r : Regs) (m : Memory) → trace_of (suc n) q r m ≡ next_trace q n (trace_of n q r m)
unfolding trace_of
trace_suc n q r m = refl

pub is_run : (n : ℕ) (q : TraceRequest) (r : Regs) (m : Memory) → q.stops.now ≡ [] → IsRun (trace_of n q r m) (run_of n r m)
is_run zero q r m e =
    let a = trace_none q r m in
    let b = run_of-none 0 r m refl in record {
      regs = ap (λ (t : Trace). t.regs) a ∙ sym (ap (λ (x : Ran). x.regs) b);
      memory = ap (λ (t : Trace). t.memory) a ∙ sym (ap (λ (x : Ran). x.memory) b);
      outcome = ap (λ (t : Trace). t.outcome) a ∙ sym (ap (λ (x : Ran). x.stop.outcome) b);
      reached = ap (λ (t : Trace). t.reached) a;
    }
is_run (suc n) q r m e =
    let t = trace_of n q r m in
    let x = run_of n r m in
    let h = is_run n q r m e in
    let count : suc n ≡ n + 1 = omega arith in
    elim (some_or x.stop.outcome) [
      | inl o ↦
          let p : run_of (suc n) r m ≡ run_of 1 x.regs x.memory = run_of-parts n 1 (suc n) r m count o in
          let s = step_of t.regs t.memory in
          let next : trace_of (suc n) q r m ≡ after_step q n s t =
          ap (λ k. trace_of k q r m) count ∙ trace_next n q r m (h.outcome ∙ o) h.reached in
          let one = one_step x.regs x.memory in
          let same : s ≡ step_of x.regs x.memory = ap (λ y. step_of y t.memory) h.regs ∙ ap (λ y. step_of x.regs y) h.memory in record {
            regs = ap (λ (y : Trace). y.regs) next ∙ ap (λ (y : Stepped). y.regs) same ∙ sym one.0 ∙ sym (ap (λ (y : Ran). y.regs) p);
            memory = ap (λ (y : Trace). y.memory) next ∙ ap (λ (y : Stepped). y.memory) same ∙ sym one.1 ∙ sym (ap (λ (y : Ran). y.memory) p);
            outcome =
                ap (λ (y : Trace). y.outcome) next ∙ ap (λ (y : Stepped). stopping y.outcome) same
                ∙ one.2
                ∙ sym (ap (λ (y : Ran). y.stop.outcome) p);
            reached = ap (λ (y : Trace). y.reached) next ∙ no_stop q.stops.now (stopping s.outcome) s.regs.pc e;
          }
      | inr o ↦
          let p = run_of-first_part n 1 (suc n) r m count o in
          let same : trace_of (suc n) q r m ≡ t = trace_suc n q r m ∙ stays q n t (λ k. o (sym h.outcome ∙ k)) in record {
            regs = ap (λ (y : Trace). y.regs) same ∙ h.regs ∙ sym (ap (λ (y : Ran). y.regs) p);
            memory = ap (λ (y : Trace). y.memory) same ∙ h.memory ∙ sym (ap (λ (y : Ran). y.memory) p);
            outcome = ap (λ (y : Trace). y.outcome) same ∙ h.outcome ∙ sym (ap (λ (y : Ran). y.stop.outcome) p);
            reached = ap (λ (y : Trace). y.reached) same ∙ h.reached;
          }
    ]
