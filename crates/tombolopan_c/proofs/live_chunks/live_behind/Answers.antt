use Rattle.std.proofs.Common.{rules, ◌≡◌, ◌<◌, ◌+◌, ◌∙◌, length, sym, ap, arith}
use Rattle.tombolopan_c.proofs.LiveChunks.{live_start, live_more}
use Rattle.tombolopan_c.specs.LiveChunks.{after_call, after_resolved}
use Rattle.tombolopan_c.proofs.live_chunks.live_behind.Goals.{in-Some+in_ok-note, in_default}
use Rattle.tombolopan_c.proofs.live_chunks.live_behind.Goals as goal

pub loop-i-init : goal.loop-i-init
loop-i-init c = c.new-live.ensures.empty ∙ sym (live_start c.args.steps.now)

pub loop-i-preserved : goal.loop-i-preserved
loop-i-preserved c =
    let es = c.loop-i.live.entries in
    let at : c.loop-i.i < length c.args.steps.now = omega (arith, c.loop-i-test.true, c.loop-i.auto.i-end) in
    let more = live_more c.args.steps.now c.loop-i.i _ at es c.loop-i.invariant c.resolved.result c.resolved.ensures in
    elim c.match-resolved.branch [
      | in-Some+in_ok-note w ↦
          let noted : c.match-resolved.live.entries ≡ after_call es (c.loop-i.i + 1) w.in-Some.call = search rules in
          noted ∙ sym (ap (λ o. after_resolved es (c.loop-i.i + 1) o) w.in-Some.is) ∙ more
      | in_default w ↦
          let same : c.match-resolved.live.entries ≡ after_resolved es (c.loop-i.i + 1) c.resolved.result = search rules in
          same ∙ more
    ]
