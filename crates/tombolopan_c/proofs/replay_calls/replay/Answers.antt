use Rattle.std.proofs.Common.{rules, ◌≡◌, ◌<◌, ◌∙◌, length, sym, ap, arith}
use Rattle.tombolopan_c.specs.HeapCalls.{start_of}
use Rattle.tombolopan_c.specs.HeapReplays.{Replay}
use Rattle.tombolopan_c.proofs.HeapReplays.{replayed_start, replayed_more}
use Rattle.tombolopan_c.proofs.replay_calls.replay.Goals as goal

pub loop-i-init : goal.loop-i-init
loop-i-init c =
    let w = start_of c.args.setup.now in
    let start : c.in-Ok.bench ≡ w = search (rules, c.in-Ok.ensures, c.mode-mode.ensures, c.rgsr-rgsr.ensures.rgsr) in
    let none = replayed_start w c.args.steps.now in
    (start ∙ sym (ap (λ (p : Replay). p.world) none), sym (ap (λ (p : Replay). p.steps) none))

pub loop-i-preserved : goal.loop-i-preserved
loop-i-preserved c =
    let at : c.loop-i.i < length c.loop-i.steps = omega (arith, c.loop-i-test.true, c.loop-i.auto.steps) in
    replayed_more (start_of c.args.setup.now) c.args.steps.now c.loop-i.i c.loop-i.bench c.loop-i.steps _
    c.loop-i.invariant.0 c.loop-i.invariant.1 at _ _ c.make_step.ensures.world c.make_step.ensures.step
