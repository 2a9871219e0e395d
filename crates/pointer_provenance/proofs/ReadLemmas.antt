-- A read that compares no tags leaves the memory as it was.
use Rattle.std.proofs.Common.{◌≡◌, ℕ, Bool, true, false, ◌∙◌, if◌then◌else◌}
use Rattle.mte_tags.specs.Memory.{Memory}
use Rattle.mte_tags.specs.Accesses.{after_read}
use Rattle.mte_tags.proofs.ModeLaws.{after_read-without-check}

pub unchanged : (m n : Memory) (a count : ℕ) (b : Bool) → n ≡ (if b then after_read m a count false else m) → n ≡ m
unchanged m n a count true e = e ∙ after_read-without-check m a count
unchanged m n a count false e = e
