-- Slices in order, one at a time.
use Rattle.std.proofs.Common.{◌≡◌, ℕ, ◌<◌, ◌≤◌, ◌+◌, ◌∙◌, List, [], length, get_or, drop, sym, ap, refl}
use Rattle.std.proofs.lemmas.List.{at_drop_more, drop_all}
use Rattle.mte_tenant.specs.Machines.{Machine, after_slice}
use Rattle.mte_tenant.specs.Alone.{after_slices}

-- the slice i, and then those after it
pub slices_next :
    (m n : Machine) (slices : List ℕ) (i d : ℕ) → i < length slices → n ≡ after_slice (get_or slices i d) m
    → after_slices n (drop (i + 1) slices) ≡ after_slices m (drop i slices)
unfolding after_slices
slices_next m n slices i d within made =
    ap (λ x. after_slices x (drop (i + 1) slices)) made ∙ sym (at_drop_more (after_slices m) slices i d within)

none_left : (m : Machine) → after_slices m [] ≡ m
unfolding after_slices
none_left m = refl

-- after the last
pub slices_done : (m : Machine) (slices : List ℕ) (i : ℕ) → length slices ≤ i → after_slices m (drop i slices) ≡ m
slices_done m slices i behind = ap (after_slices m) (drop_all i slices behind) ∙ none_left m
