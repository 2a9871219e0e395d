-- Each tag that a mask allows is drawn by some seed.
use Rattle.std.proofs.Common.{◌≡◌, ℕ, zero, suc, ◌+◌, ◌-◌, ◌*◌, ◌/◌, ◌%◌, ◌^◌, ◌<◌, ◌≤◌, ◌==◌, ◌&&◌, nat_le, nat_lt, Bool, true, false, cond, List, [], ◌∷◌, length, slice_index, filter, Option, Some, None, refl, sym, ap, subst, ◌∙◌, inl, inr, arith}
use Rattle.std.proofs.lemmas.Bool.{cases_lt}
use Rattle.std.proofs.lemmas.Bool.Decides.{nat_tests}
use Rattle.std.proofs.lemmas.List.FromFn.{get_or-range_with_len, length-range_with_len}
use Rattle.std.proofs.Math.Nat.{mod-lt, mod-eq_of_lt, mod-add-mod, add-mod_right}
use Rattle.std.specs.List.{range_with_len, count_by}
use Rattle.std.specs.Prelude.{get_or}
use Rattle.mte_tags.specs.Memory.{Memory, tag_at, pages_left}
use Rattle.mte_tags.specs.TagChoice.{is_allowed, allowed_tags, tag_in_turn, chosen_of, chosen_tag}
use Rattle.mte_tags.specs.RandomTags.{after_draw, offset_of, random_number, random_bit}
use Rattle.scudo_header.proofs.ClassLemmas.{all_below, below-true}
use Rattle.scudo_header.specs.Classes.{class_for}
use Rattle.scudo_header.specs.declared.headers.Origin.{Origin}
use Rattle.scudo_header.specs.declared.headers.Origin.TheVariants as origin
use Rattle.scudo_header.specs.declared.config.TheConstants.{MAX_REQUEST}
use Rattle.scudo_secondary.specs.Mappings.{place_of}
use Rattle.scudo_heap.specs.declared.chunk.Place.{Place}
use Rattle.scudo_heap.specs.declared.chunk.Chunk.{Chunk}
use Rattle.scudo_heap.specs.declared.chunk.Chunk.TheVariants.{Small, Large}
use Rattle.scudo_heap.specs.Chunks.{excluded_tags, parity_mask}
use Rattle.scudo_heap.specs.Stacks.{stack_of}
use Rattle.scudo_heap.specs.Large.{mapping_for, large_placed}
use Rattle.scudo_heap.specs.Placing.{World, more_pages, pages_for, after_grow, after_place}
use Rattle.scudo_heap.specs.Allocation.{AllocationResult, allocation_of, no_chunk, need_of, nonzero_size, is_empty, place_in, with_free_block, after_take, after_class_allocation, map_chunk_cases, after_large_allocation, allocate_cases, after_allocate, after_malloc}
use Rattle.mte_laws.specs.CarefulRuns.{State}
use Rattle.mte_laws.specs.SoundHeaps.{Sound}
use Rattle.mte_laws.specs.DrawnTags.{with_seed, AllowedTagsAreDrawn}
use Rattle.mte_laws.proofs.SoundAllocations.{branch, ready_sound, class-for}
use Rattle.mte_laws.proofs.Serving.{blocks-of}
use Rattle.scudo_primary.specs.Blocks.{IsClass}
use Rattle.std.specs.Int.RustNames.{bit_or}
use Rattle.std.proofs.lemmas.Nat.{or_mod}
use Rattle.mte_tags.specs.declared.generator.Rgsr.{Rgsr}

-- ---- a list that a test thins out

-- where an element that passes is
record IsKeptAt (xs : List ℕ) (x : ℕ) : Type 0 where
  place : ℕ
  below : place < length xs
  is : slice_index xs place ≡ x

kept-by : (b : Bool) (y : ℕ) (ys : List ℕ) (x : ℕ) → IsKeptAt ys x → IsKeptAt (cond b (y ∷ ys) ys) x
kept-by true y ys x k = record { place = suc k.place; below = let l = k.below in omega arith; is = k.is }
kept-by false y ys x k = k

first-by : (b : Bool) (y : ℕ) (ys : List ℕ) → b ≡ true → IsKeptAt (cond b (y ∷ ys) ys) y
first-by true y ys e = record { place = 0; below = omega arith; is = refl }
first-by false y ys e = cc

kept-at : (p : ℕ → Bool) (xs : List ℕ) (i x : ℕ) → i < length xs → get_or xs i 0 ≡ x → p x ≡ true → IsKeptAt (filter p xs) x
kept-at p [] i x l e t = absurd (omega arith)
kept-at p (y ∷ ys) zero x l e t = subst (λ z. IsKeptAt (filter p (y ∷ ys)) z) e (first-by (p y) y (filter p ys) (ap p e ∙ t))
kept-at p (y ∷ ys) (suc i) x l e t = kept-by (p y) y (filter p ys) x (kept-at p ys i x (omega arith) e t)

-- one that does not pass makes it shorter
no-longer-by : (b : Bool) (y : ℕ) (ys : List ℕ) (n : ℕ) → length ys ≤ n → length (cond b (y ∷ ys) ys) ≤ n + 1
no-longer-by true y ys n l = omega arith
no-longer-by false y ys n l = omega arith

no-longer : (p : ℕ → Bool) (xs : List ℕ) → length (filter p xs) ≤ length xs
no-longer p [] = omega arith
no-longer p (y ∷ ys) = let h = no-longer-by (p y) y (filter p ys) (length ys) (no-longer p ys) in omega arith

shorter-by : (b : Bool) (y : ℕ) (ys : List ℕ) (n : ℕ) → length ys < n → length (cond b (y ∷ ys) ys) < n + 1
shorter-by true y ys n l = omega arith
shorter-by false y ys n l = omega arith

shorter-first : (b : Bool) (y : ℕ) (ys : List ℕ) (n : ℕ) → b ≡ false → length ys ≤ n → length (cond b (y ∷ ys) ys) < n + 1
shorter-first true y ys n e l = cc
shorter-first false y ys n e l = omega arith

shorter : (p : ℕ → Bool) (xs : List ℕ) (i x : ℕ) → i < length xs → get_or xs i 0 ≡ x → p x ≡ false → length (filter p xs) < length xs
shorter p [] i x l e t = absurd (omega arith)
shorter p (y ∷ ys) zero x l e t = let h = shorter-first (p y) y (filter p ys) (length ys) (ap p e ∙ t) (no-longer p ys) in omega arith
shorter p (y ∷ ys) (suc i) x l e t = let h = shorter-by (p y) y (filter p ys) (length ys) (shorter p ys i x (omega arith) e t) in omega arith

-- ---- an offset that gives a place

record IsStep (count n place : ℕ) : Type 0 where
  step : ℕ
  some : 0 < step
  most : step ≤ n
  is : (count + step - 1) % n ≡ place

step-to : (count n place : ℕ) → place < n → IsStep count n place
step-to count n place l =
    let r = count % n in
    let below : r < n = mod-lt count (omega arith) in
    elim (cases_lt place r) [
      | inl low ↦ (
          let j = place + n - r in
          let a : count + (j + 1) - 1 ≡ count + j = omega arith in
          let b : r + j ≡ place + n = omega arith in
          record { step = j + 1; some = omega arith; most = omega arith; is = ap (λ x. x % n) a ∙ sym (mod-add-mod count n j) ∙ ap (λ x. x % n) b ∙ add-mod_right place n ∙ mod-eq_of_lt l })
      | inr high ↦ (
          let j = place - r in
          let a : count + (j + 1) - 1 ≡ count + j = omega arith in
          let b : r + j ≡ place = omega arith in
          record { step = j + 1; some = omega arith; most = omega arith; is = ap (λ x. x % n) a ∙ sym (mod-add-mod count n j) ∙ ap (λ x. x % n) b ∙ mod-eq_of_lt l })
    ]

-- a seed whose next four bits are an offset
seed_for : ℕ → ℕ
seed_for k = k % 4 + 128 * (k / 4)

seeds_table : all_below (λ k. (offset_of (seed_for k) 0 == k) && nat_lt (seed_for k) 65536) 16 ≡ true
unfolding seed_for random_number random_bit
seeds_table = refl

both : (a b : Bool) → (a && b) ≡ true → (a ≡ true) × (b ≡ true)
both true true e = (refl, refl)
both true false e = cc
both false b e = cc

record IsSeed (k : ℕ) : Type 0 where
  seed : ℕ
  small : seed < 2 ^ 16
  gives : offset_of seed 0 ≡ k

seed-of : (k : ℕ) → k < 16 → IsSeed k
seed-of k l =
    let e : ((offset_of (seed_for k) 0 == k) ≡ true) × (nat_lt (seed_for k) 65536 ≡ true) = both _ _ (below-true 16 (λ k. (offset_of (seed_for k) 0 == k) && nat_lt (seed_for k) 65536) seeds_table k l) in
    let a : (offset_of (seed_for k) 0 == k) ≡ true = e.0 in
    let b : nat_lt (seed_for k) 65536 ≡ true = e.1 in
    record { seed = seed_for k; small = grind (arith, nat_tests); gives = grind (arith, nat_tests) }

-- ---- a draw

turned : (tags : List ℕ) (rank place : ℕ) → place < length tags → rank % length tags ≡ place → tag_in_turn tags rank ≡ slice_index tags place
turned [] rank place l e = absurd (omega arith)
turned (a ∷ more) rank place l e = ap (slice_index (a ∷ more)) e

stepped : (tags : List ℕ) (last step place : ℕ) → place < length tags → 0 < step → (count_by (λ a. nat_lt a (last + 1)) tags + step - 1) % length tags ≡ place → chosen_of tags last step ≡ slice_index tags place
stepped tags last zero place l some e = absurd (omega arith)
stepped tags last (suc k) place l some e =
    let c = count_by (λ a. nat_lt a (last + 1)) tags in
    let same : c + k ≡ c + suc k - 1 = omega arith in
    turned tags (c + k) place l (ap (λ x. x % length tags) same ∙ e)

abbrev IsDrawn : ℕ → ℕ → ℕ → Type 0
IsDrawn last exclude tag = (seed : ℕ) × (seed < 2 ^ 16) × ((after_draw (record { tag = last; seed = seed }) exclude).tag ≡ tag)

sums : (n : ℕ) → 0 + n ≡ n
sums n = omega arith

drawn : (last exclude tag excluded : ℕ) → tag < 16 → is_allowed exclude tag ≡ true → excluded < 16 → is_allowed exclude excluded ≡ false → IsDrawn last exclude tag
unfolding after_draw allowed_tags chosen_tag
drawn last exclude tag excluded low left below out =
    let xs = range_with_len 0 16 in
    let tags = filter (is_allowed exclude) xs in
    let long : length xs ≡ 16 = length-range_with_len 0 16 in
    let k = kept-at (is_allowed exclude) xs tag tag (omega arith) (get_or-range_with_len 0 16 tag 0 low ∙ sums tag) left in
    let few : length tags < 16 = let h = shorter (is_allowed exclude) xs excluded excluded (omega arith) (get_or-range_with_len 0 16 excluded 0 below ∙ sums excluded) out in omega arith in
    let place_below = k.below in
    let st = step-to (count_by (λ a. nat_lt a (last + 1)) tags) (length tags) k.place k.below in
    let most = st.most in
    let sd = seed-of st.step (omega arith) in
    (sd.seed, sd.small, ap (λ o. chosen_tag last o exclude) sd.gives ∙ stepped tags last st.step k.place k.below st.some st.is ∙ k.is)

-- ---- malloc

-- tag 0 is excluded
low-bits : (x y : ℕ) → x < 2 → y < 2 → bit_or (bit_or 1 x) y ≡ 1
low-bits zero zero a b = refl
low-bits zero (suc zero) a b = refl
low-bits (suc zero) zero a b = refl
low-bits (suc zero) (suc zero) a b = refl
low-bits (suc (suc x)) y a b = absurd (omega arith)
low-bits zero (suc (suc y)) a b = absurd (omega arith)
low-bits (suc zero) (suc (suc y)) a b = absurd (omega arith)

is-odd : (x y : ℕ) → bit_or (bit_or 1 x) y % 2 ≡ 1
is-odd x y = or_mod (bit_or 1 x) y 1 ∙ ap (λ k. bit_or k (y % 2)) (or_mod 1 x 1) ∙ low-bits (x % 2) (y % 2) (omega arith) (omega arith)

zero-excluded : (m : Memory) (p : Place) → is_allowed (excluded_tags m p) 0 ≡ false
unfolding excluded_tags
zero-excluded m p =
    let e = is-odd (parity_mask p.class p.block) (2 ^ tag_at m p.user) in
    let f : bit_or (bit_or 1 (parity_mask p.class p.block)) (2 ^ tag_at m p.user) / 1 % 2 ≡ 1 = omega arith in
    grind (arith, nat_tests)

-- it follows the same way whatever the seed is
seeded-by : (b : Bool) (v w : World) (seed : ℕ) → cond b (with_seed v seed) (with_seed w seed) ≡ with_seed (cond b v w) seed
seeded-by true v w seed = refl
seeded-by false v w seed = refl

ready-seeded : (w : World) (c seed : ℕ) → with_free_block (with_seed w seed) c ≡ with_seed (with_free_block w c) seed
unfolding with_free_block after_grow
ready-seeded w c seed = seeded-by (is_empty (stack_of w.heap.stacks c) && nat_le (more_pages c) (pages_left w.memory)) _ w seed

ready-rgsr : (w : World) (c : ℕ) → (with_free_block w c).rgsr ≡ w.rgsr
unfolding with_free_block after_grow
ready-rgsr w c = branch (λ (r : World). r.rgsr ≡ w.rgsr) (is_empty (stack_of w.heap.stacks c) && nat_le (more_pages c) (pages_left w.memory)) (after_grow w c) w (λ e. refl) (λ e. refl)

-- the place of a chunk in a block, else another one
abbrev place_or : Place → Option Chunk → Place
place_or p None = p
place_or p (Some (Small q tag)) = q
place_or p (Some (Large m size)) = p

-- the tag that a chunk at a place gets from a world by a seed
abbrev GivesTag : World → ℕ → Place → ℕ → Type 0
GivesTag v seed p tag = (after_draw (record { tag = v.rgsr.tag; seed = seed }) (excluded_tags v.memory p)).tag ≡ tag

take-seeded : (w x v : World) (o : Origin) (a z c : ℕ) (xs : List ℕ) (seed : ℕ) (p : Place) (given tag : ℕ) → (after_take w v o a z c xs).chunk ≡ Some (Small p given) → GivesTag v seed p tag
    → (after_take x (with_seed v seed) o a z c xs).chunk ≡ Some (Small p tag)
unfolding after_place after_draw
take-seeded w x v o a z c [] seed p given tag e d = cc
take-seeded w x v o a z c (b ∷ more) seed p given tag e d =
    let q : place_in c b a z ≡ p = ap (place_or p) e in
    let t : chosen_tag v.rgsr.tag (offset_of seed 0) (excluded_tags v.memory (place_in c b a z)) ≡ tag = ap (λ k. chosen_tag v.rgsr.tag (offset_of seed 0) (excluded_tags v.memory k)) q ∙ d in
    λ i. Some (Small (q i) (t i))

class-seeded : (w : World) (o : Origin) (a z c seed : ℕ) (p : Place) (given tag : ℕ) → (after_class_allocation w o a z c).chunk ≡ Some (Small p given) → GivesTag (with_free_block w c) seed p tag
    → (after_class_allocation (with_seed w seed) o a z c).chunk ≡ Some (Small p tag)
unfolding after_class_allocation
class-seeded w o a z c seed p given tag e d =
    let v = with_free_block w c in
    subst (λ (r : World). (after_take (with_seed w seed) r o a z c (stack_of r.heap.stacks c)).chunk ≡ Some (Small p tag)) (sym (ready-seeded w c seed))
    (take-seeded w (with_seed w seed) v o a z c (stack_of v.heap.stacks c) seed p given tag e d)

-- a chunk with pages of its own is in no block
no-small : (w : World) (o : Origin) (a z n : ℕ) (start : Option ℕ) (p : Place) (given : ℕ) → (map_chunk_cases w o a z n start).chunk ≡ Some (Small p given) → ⊥
no-small w o a z n None p given e = cc
no-small w o a z n (Some start) p given e =
    branch (λ (r : AllocationResult). r.chunk ≡ Some (Small p given) → ⊥) (nat_le n (pages_left w.memory)) (allocation_of (large_placed w o (mapping_for start n a z) z) (Some (Large (mapping_for start n a z) z))) (no_chunk w) (λ t. λ f. cc) (λ t. λ f. cc) e

cases-seeded : (w : World) (o : Origin) (a z seed : ℕ) (c : Option ℕ) (p : Place) (given tag : ℕ) → (allocate_cases w o a z c).chunk ≡ Some (Small p given) → ((d : ℕ) → c ≡ Some d → GivesTag (with_free_block w d) seed p tag)
    → (allocate_cases (with_seed w seed) o a z c).chunk ≡ Some (Small p tag)
unfolding after_large_allocation
cases-seeded w o a z seed None p given tag e d = absurd (no-small w o a z (pages_for (need_of a z)) (place_of w.heap.maps.mappings (pages_for (need_of a z))) p given e)
cases-seeded w o a z seed (Some c) p given tag e d = class-seeded w o a z c seed p given tag e (d c refl)

allocate-seeded : (w : World) (o : Origin) (a size seed : ℕ) (p : Place) (given tag : ℕ) → (after_allocate w o a size).chunk ≡ Some (Small p given) → ((d : ℕ) → class_for (need_of a (nonzero_size size)) ≡ Some d → GivesTag (with_free_block w d) seed p tag)
    → (after_allocate (with_seed w seed) o a size).chunk ≡ Some (Small p tag)
unfolding after_allocate
allocate-seeded w o a size seed p given tag e d =
    let z = nonzero_size size in
    let c = class_for (need_of a z) in
    elim (nat_le size MAX_REQUEST) as (λ b. (cond b (allocate_cases w o a z c) (no_chunk w)).chunk ≡ Some (Small p given) → (cond b (allocate_cases (with_seed w seed) o a z c) (no_chunk (with_seed w seed))).chunk ≡ Some (Small p tag)) [
      | true ↦ λ f. cases-seeded w o a z seed c p given tag f d
      | false ↦ λ f. cc
    ] e

-- a class that gets pages has the same tags
gives-tag : (s : State) (d seed : ℕ) (p : Place) (tag : ℕ) → Sound s → IsClass d → GivesTag s.world seed p tag → GivesTag (with_free_block s.world d) seed p tag
unfolding excluded_tags
gives-tag s d seed p tag k hc g =
    let v = with_free_block s.world d in
    let ready = ready_sound s.world s.live.blocks d hc k.heap (blocks-of s k) in
    let last : v.rgsr.tag ≡ s.world.rgsr.tag = ap (λ (r : Rgsr). r.tag) (ready-rgsr s.world d) in
    let here = ready.tags p.user in
    (λ i. (after_draw (record { tag = last i; seed = seed }) (bit_or (bit_or 1 (parity_mask p.class p.block)) (2 ^ here i))).tag) ∙ g

pub tags-drawn : AllowedTagsAreDrawn
unfolding after_malloc
tags-drawn = record {
  draws = drawn;
  mallocs = λ s size p given tag k e low left.
      let d = drawn s.world.rgsr.tag (excluded_tags s.world.memory p) tag 0 low left (omega arith) (zero-excluded s.world.memory p) in
      (d.0, d.1, allocate-seeded s.world origin.Malloc 16 size d.0 p given tag e (λ c f. gives-tag s c d.0 p tag k (class-for (need_of 16 (nonzero_size size)) c f).class d.2));
}
