use Rattle.std.proofs.Common.{◌≡◌, ◌==◌, ◌∙◌, false, sym, ap, arith, eq-eqb}
use Rattle.std.proofs.lemmas.Bool.{cond-true, cond-false}
use Rattle.std.proofs.lemmas.Bool.Decides.{nat_tests}
use Rattle.scudo_heap.specs.Heaps.{heap_of}
use Rattle.scudo_heap.specs.Placing.{world_of}
use Rattle.scudo_heap.specs.Allocation.{AllocationResult, answer_of, nonzero_size}
use Rattle.scudo_heap.proofs.AllocationLemmas.{after-allocate-over, after-allocate-some}
use Rattle.scudo_heap.proofs.allocation.allocate_address.Goals.{then-request-eq0, else-request-eq0}
use Rattle.scudo_heap.proofs.allocation.allocate_address.Goals as goal

pub returns-then-request-gt-MAX_REQUEST-clause-answer :
    goal.returns-then-request-gt-MAX_REQUEST-clause-answer
returns-then-request-gt-MAX_REQUEST-clause-answer g c =
    let p = c.args.parts.now in
    ap (λ (x : AllocationResult). answer_of x.chunk)
    (after-allocate-over (world_of (g.M.Tagged.memory c.args.memory.now) (heap_of p.cookie p.stacks p.maps) c.args.rgsr.now) c.args.request.origin c.args.request.align c.args.request.size c.if-request-gt-MAX_REQUEST.true)

pub returns-then-request-gt-MAX_REQUEST-clause-world :
    goal.returns-then-request-gt-MAX_REQUEST-clause-world
returns-then-request-gt-MAX_REQUEST-clause-world g c =
    let p = c.args.parts.now in
    ap (λ (x : AllocationResult). x.world)
    (after-allocate-over (world_of (g.M.Tagged.memory c.args.memory.now) (heap_of p.cookie p.stacks p.maps) c.args.rgsr.now) c.args.request.origin c.args.request.align c.args.request.size c.if-request-gt-MAX_REQUEST.true)

pub returns-in-Some-clause-answer : goal.returns-in-Some-clause-answer
returns-in-Some-clause-answer g c =
    let p = c.args.parts.now in
    let r = c.args.request in
    let w = world_of (g.M.Tagged.memory c.args.memory.now) (heap_of p.cookie p.stacks p.maps) c.args.rgsr.now in
    let size : c.if-request-eq0.size ≡ nonzero_size r.size = elim c.if-request-eq0.branch [
      | then-request-eq0 v ↦ v.size-is ∙ sym (cond-true _ _ _ (eq-eqb r.size 0 v.if-request-eq0.true))
      | else-request-eq0 v ↦
          let some = v.if-request-eq0.false in
          let t : (r.size == 0) ≡ false = grind (arith, nat_tests) in
          v.size-is ∙ sym (cond-false _ _ _ t)
    ] in
    c.address.ensures
    ∙ ap (λ (x : AllocationResult). answer_of x.chunk) (c.in-Some.ensures.made ∙ after-allocate-some w r.origin r.align r.size _ (let t = c.if-request-gt-MAX_REQUEST.false in omega arith) size)

pub returns-in-Some-clause-world : goal.returns-in-Some-clause-world
returns-in-Some-clause-world g c =
    let p = c.args.parts.now in
    let r = c.args.request in
    let w = world_of (g.M.Tagged.memory c.args.memory.now) (heap_of p.cookie p.stacks p.maps) c.args.rgsr.now in
    let size : c.if-request-eq0.size ≡ nonzero_size r.size = elim c.if-request-eq0.branch [
      | then-request-eq0 v ↦ v.size-is ∙ sym (cond-true _ _ _ (eq-eqb r.size 0 v.if-request-eq0.true))
      | else-request-eq0 v ↦
          let some = v.if-request-eq0.false in
          let t : (r.size == 0) ≡ false = grind (arith, nat_tests) in
          v.size-is ∙ sym (cond-false _ _ _ t)
    ] in
    ap (λ (x : AllocationResult). x.world) (c.in-Some.ensures.made ∙ after-allocate-some w r.origin r.align r.size _ (let t = c.if-request-gt-MAX_REQUEST.false in omega arith) size)
