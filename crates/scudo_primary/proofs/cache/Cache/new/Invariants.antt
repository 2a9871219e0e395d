use Rattle.std.proofs.Common.{◌≡◌, ◌≤◌, ◌-◌, [], replicate}
use Rattle.std.specs.Prelude.{vec_len, vec_capacity}
use Rattle.scudo_header.specs.declared.config.TheConstants.{CLASSES}
use Rattle.scudo_primary.proofs.cache.Cache.new.Given as goal

abbrev pub decreases-loop-entries : goal.decreases-loop-entries
decreases-loop-entries l = CLASSES - vec_len l.entries

-- the classes so far have no block
abbrev pub invariant-loop-entries : goal.invariant-loop-entries
invariant-loop-entries l = record {
  items : l.entries.items ≡ replicate (vec_len l.entries) [];
  few : vec_len l.entries ≤ CLASSES;
  capacity : vec_capacity l.entries ≡ CLASSES;
}
