use Rattle.std.proofs.Common.{inr, refl, subst}
use Rattle.std.proofs.Math.Logic.{∥∥₁_map}
use Rattle.heap_bounds.specs.LiveBytes.{AreLive}
use Rattle.heap_bounds.proofs.NearLemmas.{live-near}
use Rattle.heap_bounds.proofs.near_bounds.NearBounds.may_trespass.Goals as goal

pub returns-then-has-clause-right : goal.returns-then-has-clause-right
returns-then-has-clause-right c _ =
    let h = c.if-has.ensures in
    ∥∥₁_map (subst (λ a. ∥ AreLive c.args.self.now a c.args.bytes ∥₁) c.plain-first.ensures
    (live-near _ c.near_at.result c.plain-first.result c.args.bytes c.near_at.ensures (h.some refl) (h.from refl) (h.to refl))) (λ live. inr live)

pub returns-clause-right : goal.returns-clause-right
returns-clause-right c right =
    ∥∥₁_map (subst (λ a. ∥ AreLive c.args.self.now a c.args.bytes ∥₁) c.plain-first.ensures (c.may_trespass_far.ensures.right right)) (λ live. inr live)
