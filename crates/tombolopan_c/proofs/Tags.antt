-- The answer of a load of a tag.
use Rattle.std.proofs.Common.{◌≡◌, ℕ, Option, Some, None, Ok}
use Rattle.mte_tags.specs.Accesses.{tag_result}
use Rattle.mte_tags.specs.declared.fault.MemFault.{MemFault}

pub loaded_ok : (o : Option MemFault) (t x : ℕ) → Ok x ≡ tag_result o t → x ≡ t
loaded_ok None t x e = cc
loaded_ok (Some f) t x e = cc
