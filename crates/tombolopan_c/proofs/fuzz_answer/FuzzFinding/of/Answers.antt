use Rattle.std.proofs.Common.{refl}
use Rattle.tombolopan_c.proofs.fuzz_answer.FuzzFinding.of.Goals as goal

pub returns-in-Some : goal.returns-in-Some
returns-in-Some c = rw (c.in-Some.is, c.code_of_trespass.ensures, c.one_if-in-Some.ensures, c.one_if.ensures) refl
