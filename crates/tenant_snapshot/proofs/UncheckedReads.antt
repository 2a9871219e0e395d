-- A read that compares no tags leaves the memory as it was.
use Rattle.std.proofs.Common.{◌≡◌, ℕ, Bool, true, false, refl, ◌∙◌, if◌then◌else◌}
use Rattle.mte_tags.specs.Memory.{Memory}
use Rattle.mte_tags.specs.Accesses.{after_read}
use Rattle.mte_tags.proofs.ModeLaws.{after_access-without-check}

after_read-without-check : (m : Memory) (a n : ℕ) → after_read m a n false ≡ m
unfolding after_read
after_read-without-check m a n = after_access-without-check m _ _ refl

pub stays : (m n : Memory) (a count : ℕ) (b : Bool) → n ≡ (if b then after_read m a count false else m) → n ≡ m
stays m n a count true e = e ∙ after_read-without-check m a count
stays m n a count false e = e
