-- Where the blocks of each size class lie.
use Rattle.std.specs.Prelude.{ℕ, ◌+◌, ◌*◌}
use Rattle.common.specs.declared.ranges.TheConstants.{REGIONS_START, REGION_SIZE}

-- The first address of a class's region.
abbrev pub region_of : ℕ → ℕ
region_of class = REGIONS_START + class * REGION_SIZE
