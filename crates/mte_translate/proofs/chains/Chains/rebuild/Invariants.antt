use Rattle.std.proofs.Common.{take}
use Rattle.mte_translate.specs.Whole.{hashes_of, IsChained}
use Rattle.mte_translate.proofs.chains.Chains.rebuild.Given as goal

abbrev pub invariant-loop-place : goal.invariant-loop-place
invariant-loop-place l =
    IsChained 0 l.self.heads l.self.gaps (hashes_of (take l.place l.translations))
