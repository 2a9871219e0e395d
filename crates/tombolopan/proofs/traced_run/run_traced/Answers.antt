use Rattle.std.proofs.Common.{rules, refl, sym, ap, subst, ◌+◌, ◌∙◌}
use Rattle.tombolopan.specs.Traces.{Trace, IsTraced, arrays}
use Rattle.tombolopan.proofs.Entering.{trace_none, holds_start, holds_no_access}
use Rattle.tombolopan.proofs.traced_run.run_traced.Goals as goal

pub loop-init : goal.loop-init
loop-init g c =
    let q = c.args.request.now in
    let r = c.args.regs.now in
    let m = g.M.Tagged.memory c.args.memory.now in
    let none = trace_none q r m in
    record {
      traced = record {
        regs = sym (ap (λ (x : Trace). x.regs) none);
        memory = sym (ap (λ (x : Trace). x.memory) none);
        outcome = sym (ap (λ (x : Trace). x.outcome) none);
        reached = sym (ap (λ (x : Trace). x.reached) none);
        instructions = holds_start q r m c.args.instructions.now;
        accesses = holds_no_access q r m c.args.accesses.now;
      };
      request = refl;
      steps = refl;
      running = refl;
      passing = refl;
      empty = refl;
      tag = λ t. t;
      kept = g.met.M.Tagged.kept_same c.args.memory.now;
    }

pub returns-then-is_some-clause-traced : goal.returns-then-is_some-clause-traced
returns-then-is_some-clause-traced g c =
    let inv = c.loop.invariant in
    let m0 = g.M.Tagged.memory c.args.memory.now in
    let old = arrays c.args.instructions.now c.args.accesses.now in
    subst (λ q. IsTraced q c.args.regs.now m0 old c.advance.new.progress.end c.advance.new.regs (g.M.Tagged.memory c.advance.new.memory) (arrays c.advance.new.instructions c.advance.new.accesses))
    inv.request
    (c.advance.ensures.traced c.args.regs.now m0 old
    (subst (λ q. IsTraced q c.args.regs.now m0 old c.loop.progress.end c.loop.regs (g.M.Tagged.memory c.loop.memory) (arrays c.loop.instructions c.loop.accesses))
    (sym inv.request) inv.traced))

pub loop-preserved : goal.loop-preserved
loop-preserved g c =
    let inv = c.loop.invariant in
    let m0 = g.M.Tagged.memory c.args.memory.now in
    let old = arrays c.args.instructions.now c.args.accesses.now in
    record {
      traced =
          subst (λ q. IsTraced q c.args.regs.now m0 old c.advance.new.progress.end c.advance.new.regs (g.M.Tagged.memory c.advance.new.memory) (arrays c.advance.new.instructions c.advance.new.accesses))
          inv.request
          (c.advance.ensures.traced c.args.regs.now m0 old
          (subst (λ q. IsTraced q c.args.regs.now m0 old c.loop.progress.end c.loop.regs (g.M.Tagged.memory c.loop.memory) (arrays c.loop.instructions c.loop.accesses))
          (sym inv.request) inv.traced));
      request = ap (λ x. x.now) c.advance.ensures.request ∙ inv.request;
      steps = c.advance.ensures.steps ∙ ap (λ n. n + 1) inv.steps;
      running = search (rules, c.is_some.ensures, c.if-is_some.false);
      passing = c.if-progress.false;
      empty = c.advance.ensures.full ∙ inv.empty;
      tag = λ t. c.advance.ensures.tag (inv.tag t);
      kept = g.met.M.Tagged.kept_on _ _ _ inv.kept c.advance.ensures.kept;
    }
