use Rattle.std.proofs.Common.{◌∙◌, Ok, Err, ap}
use Rattle.scudo_heap.specs.Checks.{check_pointer}
use Rattle.scudo_heap.proofs.FreeLemmas.{usable-null, usable-by}
use Rattle.scudo_heap.proofs.heap.Heap.usable_size.Goals as goal

pub returns-then-pointer-eq0-clause-answer : goal.returns-then-pointer-eq0-clause-answer
returns-then-pointer-eq0-clause-answer g c = usable-null _ _ _ c.if-pointer-eq0.true

pub returns-in-Err-clause-answer : goal.returns-in-Err-clause-answer
returns-in-Err-clause-answer g c =
    let m = g.M.Tagged.memory c.args.memory.now in
    usable-by m c.args.self.now c.args.pointer (Err c.in-Err.abort) c.if-pointer-eq0.false
    (c.in-Err.ensures.answer ∙ ap (λ h. check_pointer m h c.plain.result) c.self.view_is ∙ ap (check_pointer m c.args.self.now) c.plain.ensures)

pub returns-in-Ok-clause-answer : goal.returns-in-Ok-clause-answer
returns-in-Ok-clause-answer g c =
    let m = g.M.Tagged.memory c.args.memory.now in
    ap (λ n. Ok n) c.size.ensures
    ∙ usable-by m c.args.self.now c.args.pointer (Ok c.in-Ok.found) c.if-pointer-eq0.false
    (c.in-Ok.ensures.answer ∙ ap (λ h. check_pointer m h c.plain.result) c.self.view_is ∙ ap (check_pointer m c.args.self.now) c.plain.ensures)
