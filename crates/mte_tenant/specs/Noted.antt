-- Equal twice is equal: what a memory whose accesses are noted leaves, call after call.
use Rattle.std.specs.Prelude.{◌≡◌}
use Rattle.std.proofs.Common.{◌∙◌}

pub same_on : {X : Type 0} → (a b c : X) → b ≡ a → c ≡ b → c ≡ a
same_on a b c h k = k ∙ h
