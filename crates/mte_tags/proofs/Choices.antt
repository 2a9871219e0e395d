-- What the tags that a mask leaves are.
use Rattle.std.proofs.Common.{◌≡◌, ℕ, zero, suc, ◌+◌, ◌<◌, ◌%◌, List, [], ◌∷◌, length, slice_index, nat_lt, ◌-◌, refl, sym, ap, ◌∙◌, arith}
use Rattle.std.specs.List.{count_by}
use Rattle.mte_tags.specs.TagChoice.{allowed_tags, tag_in_turn, chosen_of, chosen_tag}

none_chosen : (tags : List ℕ) (t k : ℕ) → length tags ≡ 0 → chosen_of tags t k ≡ 0
none_chosen [] t zero e = refl
none_chosen [] t (suc k) e = refl
none_chosen (a ∷ more) t k e = absurd (omega arith)

pub chosen_none : (t k exclude : ℕ) → length (allowed_tags exclude) ≡ 0 → chosen_tag t k exclude ≡ 0
unfolding chosen_tag
chosen_none t k exclude e = none_chosen (allowed_tags exclude) t k e

in_turn : (tags : List ℕ) (rank : ℕ) → 0 < length tags → tag_in_turn tags rank ≡ slice_index tags (rank % length tags)
in_turn [] rank h = absurd (omega arith)
in_turn (a ∷ more) rank h = refl

pub chosen_at : (t exclude : ℕ) (tags : List ℕ) → tags ≡ allowed_tags exclude → 0 < length tags → chosen_tag t 0 exclude ≡ slice_index tags (count_by (λ a. nat_lt a t) tags % length tags)
unfolding chosen_tag
chosen_at t exclude tags e h = ap (λ xs. chosen_of xs t 0) (sym e) ∙ in_turn tags (count_by (λ a. nat_lt a t) tags) h

after : (tags : List ℕ) (t k : ℕ) → 0 < k → chosen_of tags t k ≡ tag_in_turn tags (count_by (λ a. nat_lt a (t + 1)) tags + k - 1)
after tags t zero h = absurd (omega arith)
after tags t (suc k) h =
    let e : count_by (λ a. nat_lt a (t + 1)) tags + k ≡ count_by (λ a. nat_lt a (t + 1)) tags + suc k - 1 = omega arith in
    ap (tag_in_turn tags) e

pub chosen_after : (t k exclude : ℕ) (tags : List ℕ) → tags ≡ allowed_tags exclude → 0 < k → 0 < length tags
    → chosen_tag t k exclude ≡ slice_index tags ((count_by (λ a. nat_lt a (t + 1)) tags + k - 1) % length tags)
unfolding chosen_tag
chosen_after t k exclude tags e l h =
    ap (λ xs. chosen_of xs t k) (sym e) ∙ after tags t k l ∙ in_turn tags (count_by (λ a. nat_lt a (t + 1)) tags + k - 1) h
