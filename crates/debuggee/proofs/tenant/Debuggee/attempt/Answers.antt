use Rattle.std.proofs.Common.{◌≡◌, ◌⊎◌, ◌+◌, suc, true, false, sym, ◌∙◌, arith, inl, inr}
use Rattle.std.proofs.Math.Logic.{∥∥₁_map}
use Rattle.mte_tenant.specs.Machines.{Machine, Attempt, machine_of, runs, after_attempts}
use Rattle.mte_tenant.proofs.MachineLemmas.{after-attempts-ended, attempts_none}
use Rattle.debuggee.proofs.CourseLemmas.{after_one, after_last}
use Rattle.debuggee.proofs.tenant.Debuggee.attempt.Goals.{else-goes_on-via-then-goes_on+then-left-gt0+else-is_running, else-goes_on-via-then-goes_on+else-left-gt0, else-goes_on-via-else-goes_on}
use Rattle.debuggee.proofs.tenant.Debuggee.attempt.Goals as goal

pub invariant_of-self-clause-law : goal.invariant_of-self-clause-law
invariant_of-self-clause-law c =
    let m : Machine = machine_of c.args.self.now.parts c.args.self.now.memory.flat in
    let a : Attempt = record { machine = machine_of c.attempt-goes_on.new.parts c.attempt-goes_on.new.memory.flat; goes_on = c.attempt-goes_on.result } in
    let running : runs m ≡ true = sym c.is_running.ensures ∙ c.if-not-is_running.false in
    let some : c.args.self.now.cut ≡ suc (c.args.self.now.done + c.from.result) = omega (arith, c.from.ensures) in
    ∥∥₁_map c.args.self.now.law (λ h. after_one _ _ _ _ _ c.from.result m a h running some c.attempt-goes_on.ensures.machine c.if-goes_on.true)

pub invariant_of-self-2-clause-law : goal.invariant_of-self-2-clause-law
invariant_of-self-2-clause-law c =
    let m : Machine = machine_of c.args.self.now.parts c.args.self.now.memory.flat in
    let a : Attempt = record { machine = machine_of c.attempt-goes_on.new.parts c.attempt-goes_on.new.memory.flat; goes_on = c.attempt-goes_on.result } in
    let running : runs m ≡ true = sym c.is_running.ensures ∙ c.if-not-is_running.false in
    let some : c.args.self.now.cut ≡ suc (c.args.self.now.done + c.from.result) = omega (arith, c.from.ensures) in
    let over : (a.goes_on ≡ false) ⊎ ((a.goes_on ≡ true) × (after_attempts c.from.result a.machine ≡ a.machine)) = elim c.else-goes_on.branch [
      | else-goes_on-via-then-goes_on+then-left-gt0+else-is_running w ↦
          inr (w.if-goes_on.true, after-attempts-ended c.from.result a.machine (sym w.is_running-then-left-gt0.ensures ∙ w.if-is_running.false))
      | else-goes_on-via-then-goes_on+else-left-gt0 w ↦
          inr (w.if-goes_on.true, attempts_none c.from.result a.machine (omega (arith, c.from.ensures, w.if-left-gt0.false)))
      | else-goes_on-via-else-goes_on w ↦ inl w.if-goes_on.false
    ] in
    ∥∥₁_map c.args.self.now.law (λ h. after_last _ _ _ _ _ c.from.result m _ a _ h running some c.attempt-goes_on.ensures.machine over c.settle.ensures.machine c.next-self.ensures)
