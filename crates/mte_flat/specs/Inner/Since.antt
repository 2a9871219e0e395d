-- For the code's own clauses, views and invariants.
-- The pages that a call does not change: the slots that are not marked as written.
use Rattle.std.specs.Prelude.{◌≡◌}
use Rattle.std.proofs.Common.{◌∙◌, refl}
use Rattle.mte_flat.specs.Inner.Written.{KeepsUnwritten, unwritten_same, unwritten_on}
use Rattle.mte_flat.specs.declared.pages.Pages.{Pages}

-- As many pages may be mapped, and each slot that is not marked as written is that of before.
pub record IsSince (before after : Pages) : Type 0 where
  pub limit : after.limit ≡ before.limit
  pub slots : KeepsUnwritten before.slots.items after.slots.items

pub since_same : (p : Pages) → IsSince p p
since_same p = record { limit = refl; slots = unwritten_same p.slots.items }

pub since_on : (a b c : Pages) → IsSince a b → IsSince b c → IsSince a c
since_on a b c first second = record {
  limit = second.limit ∙ first.limit;
  slots = unwritten_on a.slots.items b.slots.items c.slots.items first.slots second.slots;
}
