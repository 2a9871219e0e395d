use Rattle.std.proofs.Common.{◌<◌, ◌+◌, ◌++◌, length, set, sym, ap, subst, arith}
use Rattle.tombolopan.specs.Traces.{listed, Holds}
use Rattle.tombolopan.proofs.Entering.{holds_more}
use Rattle.tombolopan.proofs.traced_run.enter_access.Goals as goal

pub returns : goal.returns
returns c = λ xs old h.
    let count = c.args.count in
    let v = c.in-Some.access in
    let room : count < length old = omega (arith, c.if-count-accesses.false, h.same) in
    subst (λ l. Holds (xs ++ l) old (set c.args.accesses.now count v) (count + 1)) (sym (ap listed c.in-Some.is))
    (holds_more xs old c.args.accesses.now count v room h)
