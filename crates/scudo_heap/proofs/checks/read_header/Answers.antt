use Rattle.std.proofs.Common.{arith}
use Rattle.scudo_heap.proofs.CheckLemmas.{check-pointer-word, mapped-from}
use Rattle.scudo_heap.proofs.checks.read_header.Goals as goal

pub returns-in-Some-clause-word : goal.returns-in-Some-clause-word
returns-in-Some-clause-word g c = λ h.
    check-pointer-word _ h c.args.user c.in-Some.word c.if-user-ne0.false (mapped-from _ _ (omega (arith, c.if-user-lt16.false)) c.in-Some.ensures.has) c.in-Some.ensures.word
