use Rattle.std.proofs.Common.{◌≡◌, ◌∙◌, ◌+◌, ◌-◌, ◌<◌, sym, ap, refl, arith, true, false}
use Rattle.a64_step.specs.declared.outcome.Outcome.TheVariants.{Next}
use Rattle.a64_registers.specs.declared.registers.Regs.{Regs}
use Rattle.a64_step.specs.Steps.{step_of}
use Rattle.a64_step.proofs.Running.{equal_stops}
use Rattle.tombolopan_c.specs.RunsUntil.{run_until_of, is_among, RanUntil}
use Rattle.tombolopan_c.proofs.Until.{until_next, until_there, until_stop, until_none, there}
use Rattle.tombolopan_c.proofs.run_until.run_until.Goals as goal

-- what is left where PC is at a stop after this step
at_stop : (g : _) (c : goal.Then-contains g)
    → there (step_of c.loop-i.regs (g.M.Tagged.memory c.loop-i.memory)) (c.args.steps - c.loop-i.i - 1)
    ≡ run_until_of c.args.steps c.args.stops.now c.args.regs.now (g.M.Tagged.memory c.args.memory.now)
at_stop g c =
    let r = c.loop-i.regs in
    let m = g.M.Tagged.memory c.loop-i.memory in
    let stops = c.args.stops.now in
    let some : 0 < c.args.steps - c.loop-i.i = omega arith in
    let next : (step_of r m).outcome ≡ Next = sym c.step.ensures.outcome ∙ c.in-Next.is in
    let among : is_among stops (step_of r m).regs.pc ≡ true =
    ap (λ (q : Regs). is_among stops q.pc) (sym c.step.ensures.regs) ∙ sym c.contains.ensures.value ∙ c.if-contains.true in
    sym (until_there (c.args.steps - c.loop-i.i) stops r m some next among) ∙ c.loop-i.invariant.rest

pub returns-then-contains-clause-stop : goal.returns-then-contains-clause-stop
returns-then-contains-clause-stop g c = ap (λ (x : RanUntil). x.stop) (at_stop g c)

pub returns-then-contains-clause-reached : goal.returns-then-contains-clause-reached
returns-then-contains-clause-reached g c = ap (λ (x : RanUntil). x.reached) (at_stop g c)

pub returns-then-contains-clause-regs : goal.returns-then-contains-clause-regs
returns-then-contains-clause-regs g c = c.step.ensures.regs ∙ ap (λ (x : RanUntil). x.regs) (at_stop g c)

pub returns-then-contains-clause-memory : goal.returns-then-contains-clause-memory
returns-then-contains-clause-memory g c = c.step.ensures.memory ∙ ap (λ (x : RanUntil). x.memory) (at_stop g c)

pub returns-in_default : goal.returns-in_default
returns-in_default g c =
    let r = c.loop-i.regs in
    let m = g.M.Tagged.memory c.loop-i.memory in
    let some : 0 < c.args.steps - c.loop-i.i = omega arith in
    let stops = until_stop (c.args.steps - c.loop-i.i) c.args.stops.now r m some (λ q. c.in_default.not-Next (c.step.ensures.outcome ∙ q)) in
    let e = sym stops ∙ c.loop-i.invariant.rest in
    record {
      stop = equal_stops c.step.ensures.outcome refl ∙ ap (λ (x : RanUntil). x.stop) e;
      reached = ap (λ (x : RanUntil). x.reached) e;
      regs = c.step.ensures.regs ∙ ap (λ (x : RanUntil). x.regs) e;
      memory = c.step.ensures.memory ∙ ap (λ (x : RanUntil). x.memory) e;
      kept = g.met.M.Tagged.kept_on _ _ _ c.loop-i.invariant.kept c.step.ensures.kept;
      tag = λ t. c.step.ensures.tag (c.loop-i.invariant.tag t);
    }

pub loop-i-preserved : goal.loop-i-preserved
loop-i-preserved g c =
    let r = c.loop-i.regs in
    let m = g.M.Tagged.memory c.loop-i.memory in
    let stops = c.args.stops.now in
    let n = c.args.steps - c.loop-i.i in
    let after = g.M.Tagged.memory c.step.new.memory in
    let k : c.args.steps - (c.loop-i.i + 1) ≡ n - 1 = omega arith in
    let some : 0 < n = omega arith in
    let next : (step_of r m).outcome ≡ Next = sym c.step.ensures.outcome ∙ c.in-Next.is in
    let among : is_among stops (step_of r m).regs.pc ≡ false =
    ap (λ (q : Regs). is_among stops q.pc) (sym c.step.ensures.regs) ∙ sym c.contains.ensures.value ∙ c.if-contains.false in
    record {
      rest =
          ap (λ j. run_until_of j stops c.step.new.regs after) k
          ∙ ap (λ q. run_until_of (n - 1) stops q after) c.step.ensures.regs
          ∙ ap (λ q. run_until_of (n - 1) stops (step_of r m).regs q) c.step.ensures.memory
          ∙ sym (until_next n stops r m some next among)
          ∙ c.loop-i.invariant.rest;
      tag = λ t. c.step.ensures.tag (c.loop-i.invariant.tag t);
      kept = g.met.M.Tagged.kept_on _ _ _ c.loop-i.invariant.kept c.step.ensures.kept;
    }

pub returns-clause-stop : goal.returns-clause-stop
returns-clause-stop g c =
    ap (λ (x : RanUntil). x.stop) (sym (until_none (c.args.steps - c.loop-i.i) c.args.stops.now c.loop-i.regs (g.M.Tagged.memory c.loop-i.memory) (omega arith)) ∙ c.loop-i.invariant.rest)

pub returns-clause-reached : goal.returns-clause-reached
returns-clause-reached g c =
    ap (λ (x : RanUntil). x.reached) (sym (until_none (c.args.steps - c.loop-i.i) c.args.stops.now c.loop-i.regs (g.M.Tagged.memory c.loop-i.memory) (omega arith)) ∙ c.loop-i.invariant.rest)

pub returns-clause-regs : goal.returns-clause-regs
returns-clause-regs g c =
    ap (λ (x : RanUntil). x.regs) (sym (until_none (c.args.steps - c.loop-i.i) c.args.stops.now c.loop-i.regs (g.M.Tagged.memory c.loop-i.memory) (omega arith)) ∙ c.loop-i.invariant.rest)

pub returns-clause-memory : goal.returns-clause-memory
returns-clause-memory g c =
    ap (λ (x : RanUntil). x.memory) (sym (until_none (c.args.steps - c.loop-i.i) c.args.stops.now c.loop-i.regs (g.M.Tagged.memory c.loop-i.memory) (omega arith)) ∙ c.loop-i.invariant.rest)
