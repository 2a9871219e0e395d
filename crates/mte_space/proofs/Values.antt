-- A finite map with a function of each value in its place.
use Rattle.std.proofs.Common.{◌≡◌, ℕ, ◌&&◌, Bool, true, false, cond, List, [], ◌∷◌, map, length, Option, Some, refl, sym, ap, subst, ◌∙◌, T}
use Rattle.std.proofs.lemmas.List.{length-map}
use Rattle.std.specs.Prelude.{option_map}
use Rattle.std.specs.Ordering.{nat_cmp, eq_by_cmp, is_lt}
use Rattle.std.specs.FinMap as finite
use Rattle.std.specs.FinMap.Entries.{below_all}
use Rattle.std.specs.FinMap.{FinMap, find, is_sorted, entries_sorted, entries-from_sorted, get-from_sorted, get-entries, len-entries}
use Rattle.mte_space.specs.Spaces.{with_values}

module _ {X Y : Type 0} (g : X → Y) where
  abbrev with_value : ℕ × X → ℕ × Y
  with_value e = (e.0, g e.1)

  above : (k : ℕ) (es : List (ℕ × X)) → below_all nat_cmp k (map with_value es) ≡ below_all nat_cmp k es
  above k [] = refl
  above k (e ∷ es) = ap (λ b. is_lt (nat_cmp k e.0) && b) (above k es)

  sorted : (es : List (ℕ × X)) → is_sorted nat_cmp (map with_value es) ≡ is_sorted nat_cmp es
  sorted [] = refl
  sorted (e ∷ es) = λ i. above e.0 es i && sorted es i

  found_in : (b : Bool) (x : X) (o : Option Y) (r : Option X) → o ≡ option_map g r → cond b (Some (g x)) o ≡ option_map g (cond b (Some x) r)
  found_in true x o r e = refl
  found_in false x o r e = e

  found : (q : ℕ) (es : List (ℕ × X)) → find nat_cmp q (map with_value es) ≡ option_map g (find nat_cmp q es)
  found q [] = refl
  found q (e ∷ es) = found_in (eq_by_cmp nat_cmp q e.0) e.1 _ _ (found q es)

  is_sorted-values : (m : FinMap nat_cmp X) → T (is_sorted nat_cmp (map with_value (finite.entries m)))
  is_sorted-values m = subst T (sym (sorted (finite.entries m))) (entries_sorted m)

  pub get-with_values : (m : FinMap nat_cmp X) (q : ℕ) → finite.get (with_values g m) q ≡ option_map g (finite.get m q)
  unfolding with_values
  get-with_values m q =
      get-from_sorted nat_cmp (map with_value (finite.entries m)) q (is_sorted-values m)
      ∙ found q (finite.entries m) ∙ sym (ap (option_map g) (get-entries m q))

  pub len-with_values : (m : FinMap nat_cmp X) → finite.len (with_values g m) ≡ finite.len m
  unfolding with_values
  len-with_values m =
      len-entries (finite.from_sorted (map with_value (finite.entries m)))
      ∙ ap length (entries-from_sorted nat_cmp (map with_value (finite.entries m)) (is_sorted-values m))
      ∙ length-map (finite.entries m) with_value ∙ sym (len-entries m)
