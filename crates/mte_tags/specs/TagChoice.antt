-- The choice of a tag that is not excluded. Arm ARM DDI 0487, ChooseNonExcludedTag, given by the
-- list of the tags that are left.
use Rattle.std.specs.Prelude.{ℕ, zero, suc, ◌+◌, ◌/◌, ◌%◌, ◌^◌, ◌==◌, Bool, List, [], ◌∷◌, length}
use Rattle.std.specs.Prelude.{filter, count_by, nat_lt, slice_index}
use Rattle.std.specs.List.{range_with_len}

-- whether bit t of an exclude mask is clear
abbrev pub is_allowed : ℕ → ℕ → Bool
is_allowed exclude t = exclude / 2 ^ t % 2 == 0

-- the tags 0 to 15 that a mask does not exclude, in increasing order
unfoldable pub allowed_tags : ℕ → List ℕ
allowed_tags exclude = filter (is_allowed exclude) (range_with_len 0 16)

-- the tag that stands rank places after the first of a list of tags, which is gone through in a
-- circle
abbrev pub tag_in_turn : List ℕ → ℕ → ℕ
tag_in_turn [] rank = 0
tag_in_turn (a ∷ more) rank = slice_index (a ∷ more) (rank % length (a ∷ more))

-- offset 0: the first allowed tag at or after t; offset k: the k-th allowed tag after t; 0 where
-- none is allowed
abbrev pub chosen_of : List ℕ → ℕ → ℕ → ℕ
chosen_of tags t zero = tag_in_turn tags (count_by (λ a. nat_lt a t) tags)
chosen_of tags t (suc k) = tag_in_turn tags (count_by (λ a. nat_lt a (t + 1)) tags + k)

-- The tag that is an offset after t among the allowed ones (ChooseNonExcludedTag).
unfoldable pub chosen_tag : ℕ → ℕ → ℕ → ℕ
chosen_tag t offset exclude = chosen_of (allowed_tags exclude) t offset
