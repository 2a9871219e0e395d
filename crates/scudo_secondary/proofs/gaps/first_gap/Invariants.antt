use Rattle.std.proofs.Common.{◌≡◌, ◌+◌, drop}
use Rattle.common.specs.declared.limits.TheConstants.{PAGE_SIZE}
use Rattle.common.specs.declared.ranges.TheConstants.{SECONDARY_START}
use Rattle.scudo_secondary.specs.Mappings.{AreFrom}
use Rattle.scudo_secondary.proofs.PlaceLemmas.{gap_from}
use Rattle.scudo_secondary.proofs.gaps.first_gap.Given as goal

-- the least place is above the mappings that were passed
abbrev pub invariant-loop-mapping : goal.invariant-loop-mapping
invariant-loop-mapping l = record {
  above : AreFrom l.start (drop l.mapping-index l.mappings);
  rest : gap_from l.start l.pages (drop l.mapping-index l.mappings) ≡ gap_from (SECONDARY_START + PAGE_SIZE) l.pages l.mappings;
}
