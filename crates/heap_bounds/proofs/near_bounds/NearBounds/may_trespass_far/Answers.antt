use Rattle.std.proofs.Common.{refl}
use Rattle.heap_bounds.proofs.NearLemmas.{live-near}
use Rattle.heap_bounds.proofs.near_bounds.NearBounds.may_trespass_far.Goals as goal

pub returns-then-has-clause-right : goal.returns-then-has-clause-right
returns-then-has-clause-right c _ =
    let h = c.if-has.ensures in
    live-near _ c.near_at-live.result c.args.first c.args.bytes c.near_at-live.ensures (h.some refl) (h.from refl) (h.to refl)
