-- The tags after granules of an interval were changed.
use Rattle.std.proofs.Common.{◌≡◌, ◌≢◌, ℕ, ◌+◌, ◌-◌, ◌*◌, ◌/◌, ◌%◌, ◌^◌, ◌<◌, ◌≤◌, ◌⊎◌, Bool, Some, refl, ◌∙◌, inl, inr, arith}
use Rattle.std.proofs.lemmas.Bool.{cases_eq, cases_lt}
use Rattle.mte_tags.specs.Memory.{Memory, tag_at, attrs_at, with_granules}
use Rattle.mte_tags.specs.Whole.{IsWhole}
use Rattle.mte_tags.proofs.Whole.{whole-with_granules}
use Rattle.mte_tags.proofs.StateLaws.{limit-with_granules}
use Rattle.mte_tags.proofs.PageLaws.{attrs_at-with_granules}
use Rattle.mte_tags.proofs.TagLaws.{tag_at-with_granules_in, tag_at-with_granules_out}
use Rattle.common.specs.declared.ranges.TheConstants.{SECONDARY_START}

-- The granules from lo to hi are in pages of the heap.
pub record IsOpen (m : Memory) (lo hi : ℕ) : Type 0 where
  pub at : (a : ℕ) → lo ≤ a → a < hi → attrs_at m (a / 4096) ≡ Some 11
  pub aligned : lo % 16 ≡ 0
  pub below : hi ≤ SECONDARY_START

-- the tags of the granules from lo to hi are t, the others as they were
pub record IsRetag (m m' : Memory) (lo hi t : ℕ) : Type 0 where
  pub limit : m'.limit ≡ m.limit
  pub attrs : (q : ℕ) → attrs_at m' q ≡ attrs_at m q
  pub whole : IsWhole m'
  pub inside : (a : ℕ) → lo ≤ a → a < hi → tag_at m' a ≡ t
  pub out : (a : ℕ) → (lo ≤ a → a < hi → ⊥) → tag_at m' a ≡ tag_at m a

no_granules : (m : Memory) (a t c : ℕ) (z : Bool) → tag_at (with_granules m a 0 t z) c ≡ tag_at m c
unfolding with_granules
no_granules m a t c z = refl

apart : (a c i hi n : ℕ) → i < n → a + 16 * n ≤ 2 ^ 56 → a % 16 ≡ 0 → hi ≡ a + 16 * n → (a ≤ c → c < hi → ⊥) → c / 16 ≢ (a + 16 * i) % 2 ^ 56 / 16
apart a c i hi n l u al e o = λ f. o (omega arith) (omega arith)

pub retag : (m : Memory) (a n t hi : ℕ) (z : Bool) → IsWhole m → hi ≡ a + 16 * n → IsOpen m a hi → IsRetag m (with_granules m a n t z) a hi t
retag m a n t hi z w e o =
    let al = o.aligned in
    let below = o.below in
    elim (cases_eq n 0) [
      | inl q ↦ rw q (record { limit = limit-with_granules 0 m a t z; attrs = λ r. attrs_at-with_granules 0 m a t z r; whole = whole-with_granules 0 m a t z w; inside = λ c l h. absurd (omega arith); out = λ c x. no_granules m a t c z })
      | inr q ↦ record {
        limit = limit-with_granules n m a t z;
        attrs = attrs_at-with_granules n m a t z;
        whole = whole-with_granules n m a t z w;
        inside = λ c l h.
            let k : (c - a) / 16 < n = omega arith in
            let g : c / 16 ≡ (a + 16 * ((c - a) / 16)) % 2 ^ 56 / 16 = omega arith in
            tag_at-with_granules_in n m a t c 11 ((c - a) / 16) z (omega arith) k g (o.at c l h) refl w;
        out = λ c x. tag_at-with_granules_out n m a t c z (omega arith) (λ i l. apart a c i hi n l (omega arith) al e x);
      }
    ]

-- one change after another: the tags are as before or 0 where the second made them as before or 0
pub or_zero : (m m' m'' : Memory) (a : ℕ) → (tag_at m'' a ≡ tag_at m' a) ⊎ (tag_at m'' a ≡ 0) → (tag_at m' a ≡ tag_at m a) ⊎ (tag_at m' a ≡ 0) → (tag_at m'' a ≡ tag_at m a) ⊎ (tag_at m'' a ≡ 0)
or_zero m m' m'' a (inr e) o = inr e
or_zero m m' m'' a (inl e) (inl f) = inl (e ∙ f)
or_zero m m' m'' a (inl e) (inr f) = inr (e ∙ f)

-- granules that got the tag 0
pub cleared : (m m' : Memory) (lo hi a : ℕ) → IsRetag m m' lo hi 0 → (tag_at m' a ≡ tag_at m a) ⊎ (tag_at m' a ≡ 0)
cleared m m' lo hi a r = elim (cases_lt a lo) [
  | inl l ↦ inl (r.out a (λ x y. omega arith))
  | inr l ↦ elim (cases_lt a hi) [ inl u ↦ inr (r.inside a l u) | inr u ↦ inl (r.out a (λ x y. omega arith)) ]
]

pub open-part : (m : Memory) (lo hi a b : ℕ) → IsOpen m lo hi → lo ≤ a → b ≤ hi → a % 16 ≡ 0 → IsOpen m a b
open-part m lo hi a b o l u e = let below = o.below in record { at = λ c x y. o.at c (omega arith) (omega arith); aligned = e; below = omega arith }

pub open-after : (m m' : Memory) (lo hi : ℕ) → ((q : ℕ) → attrs_at m' q ≡ attrs_at m q) → IsOpen m lo hi → IsOpen m' lo hi
open-after m m' lo hi e o = record { at = λ c x y. e (c / 4096) ∙ o.at c x y; aligned = o.aligned; below = o.below }
