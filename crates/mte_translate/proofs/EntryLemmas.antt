-- Entries of frames: what a write of one does, zero frames, and how many are valid.
use Rattle.std.proofs.Common.{◌≡◌, ◌≢◌, ◌∷◌, ℕ, zero, suc, ◌+◌, ◌-◌, ◌*◌, ◌%◌, ◌^◌, ◌<◌, ◌≤◌, ◌⊎◌, true, false, List, length, take, drop, set, replicate, get_or, Option, Some, None, refl, sym, ap, subst, ◌∙◌, inl, inr, arith, get_or-set_same, get_or-set_other, ◌++◌, length-append, length-take, length-drop, eq-eqb}
use Rattle.std.proofs.lemmas.Bool.{cases_eq, cases_lt}
use Rattle.std.proofs.lemmas.Slice.{between-put_mid, drop-put_mid, take-put_mid_below, between_is}
use Rattle.std.proofs.lemmas.Nat.{from_le_bytes-to_le_bytes_8}
use Rattle.std.specs.Int.{from_le_bytes, to_le_bytes, w64}
use Rattle.std.specs.List.{slice_range}
use borrow.Rule.Slice.PartMut.{put_mid}
use Rattle.mte_arena.specs.Frames.{Frame, frame_at, frame_or, zero_frame, AreFrames}
use Rattle.mte_arena.proofs.Frames.{within_of}
use Rattle.mte_arena.proofs.Parts.{refill-same}
use Rattle.mte_frames.specs.Pool.{Pool, with_bytes_at, IsHeldBy, IsSound}
use Rattle.mte_translate.specs.Tables.{entry_at, is_valid, valid_in}
use Rattle.mte_translate.specs.TableSteps.{Wrote}

-- ---- frames
pub frame-same : (fs : List (Option Frame)) (f : ℕ) (x : Frame) → f < length fs → frame_at (set fs f (Some x)) f ≡ x
frame-same fs f x l = ap frame_or (get_or-set_same fs f (Some x) None l)

pub entry-kept : (n p : Pool) (f i : ℕ) → get_or n.frames f None ≡ get_or p.frames f None → entry_at n f i ≡ entry_at p f i
unfolding entry_at
entry-kept n p f i e = ap (λ (o : Option Frame). from_le_bytes w64 (slice_range (frame_or o).bytes (8 * i) (8 * i + 8))) e

-- a frame that is out is among the frames
pub out-within : (p : Pool) (f k : ℕ) → IsSound p → IsHeldBy p f k → f < length p.frames
out-within p f k sound out = let live = sound.live f k out in within_of p.frames f live.0 live.1

pub out-few : (p : Pool) (f k : ℕ) → IsSound p → IsHeldBy p f k → f < 65536
out-few p f k sound out = let few : length p.frames ≤ 65536 = sound.few in omega (arith, few, out-within p f k sound out)

-- ---- a write
words-apart : (r i : ℕ) → r ≢ i → (8 * r + 8 ≤ 8 * i) ⊎ (8 * i + 8 ≤ 8 * r)
words-apart r i d = elim (cases_lt r i) [ inl a ↦ inl (omega arith) | inr b ↦ inr (omega (arith, d)) ]

mid-length : (i : ℕ) (xs ys : List ℕ) → length ys ≡ 8 → length xs ≡ 4096 → i ≤ 4088 → length (put_mid i (i + 8 - i) xs ys) ≡ 4096
mid-length i xs ys l x t = omega (arith, l, x, length-append (take i xs) (ys ++ drop (i + 8 - i) (drop i xs)), length-append ys (drop (i + 8 - i) (drop i xs)), length-take i xs, length-drop (i + 8 - i) (drop i xs), length-drop i xs)

mid-other : (xs ys : List ℕ) (i j : ℕ) → length ys ≡ 8 → length xs ≡ 4096 → i ≤ 4088 → (j + 8 ≤ i) ⊎ (i + 8 ≤ j) → slice_range (put_mid i (i + 8 - i) xs ys) j (j + 8) ≡ slice_range xs j (j + 8)
mid-other xs ys i j l long top o = elim o [
  | inl below ↦ between_is (put_mid i (i + 8 - i) xs ys) j (j + 8) ∙ ap (drop j) (take-put_mid_below i (i + 8 - i) xs ys (j + 8) below (omega arith)) ∙ sym (between_is xs j (j + 8))
  | inr above ↦ ap (take (j + 8 - j)) (drop-put_mid i (i + 8 - i) xs ys j (omega arith) (omega arith) (omega arith))
]

bytes-written : (p : Pool) (f i e : ℕ) (ys : List ℕ) → i < 512 → f < length p.frames → e < 2 ^ 64 → ys ≡ to_le_bytes w64 e → length ys ≡ 8 → length (frame_at p.frames f).bytes ≡ 4096
    → Wrote p (with_bytes_at p f (put_mid (8 * i) (8 * i + 8 - 8 * i) (frame_at p.frames f).bytes ys)) f i e
unfolding entry_at
bytes-written p f i e ys low inside top put long xl =
    let xs = (frame_at p.frames f).bytes in
    let ws = put_mid (8 * i) (8 * i + 8 - 8 * i) xs ys in
    let wl : length ws ≡ 4096 = mid-length (8 * i) xs ys long xl (omega arith) in
    let m = with_bytes_at p f ws in
    let now : (frame_at m.frames f).bytes ≡ ws = ap (λ (y : Frame). y.bytes) (frame-same p.frames f _ inside) ∙ refill-same 4096 xs ws wl in
    let word : (r : ℕ) → from_le_bytes w64 (slice_range (frame_at m.frames f).bytes (8 * r) (8 * r + 8)) ≡ from_le_bytes w64 (slice_range ws (8 * r) (8 * r + 8)) = λ r. ap (λ bs. from_le_bytes w64 (slice_range bs (8 * r) (8 * r + 8))) now in
    record {
      here = word i ∙ ap (from_le_bytes w64) (between-put_mid (8 * i) (8 * i + 8 - 8 * i) xs ys (8 * i + 8) (omega arith) (omega arith) ∙ put) ∙ from_le_bytes-to_le_bytes_8 e top;
      slots = λ r l d. word r ∙ ap (from_le_bytes w64) (mid-other xs ys (8 * i) (8 * r) long xl (omega arith) (words-apart r i d));
      frames = λ g a. get_or-set_other p.frames f g _ None a;
      owners = refl;
      reserved = refl;
      taken = refl;
      capacities = refl;
    }

pub entry-written : (p : Pool) (k f i e : ℕ) (bs ys : List ℕ) → IsSound p → AreFrames p.frames → IsHeldBy p f k → i < 512 → e < 2 ^ 64 → bs ≡ (frame_at p.frames f).bytes → ys ≡ to_le_bytes w64 e → length ys ≡ 8
    → Wrote p (with_bytes_at p f (put_mid (8 * i) (8 * i + 8 - 8 * i) bs ys)) f i e
entry-written p k f i e bs ys sound sized out low top same put long =
    let live = sound.live f k out in
    subst (λ xs. Wrote p (with_bytes_at p f (put_mid (8 * i) (8 * i + 8 - 8 * i) xs ys)) f i e) (sym same)
    (bytes-written p f i e ys low (within_of p.frames f live.0 live.1) top put long (ap (λ o. length (frame_or o).bytes) live.1 ∙ (let z = sized f live.0 live.1 in z.bytes)))

-- ---- a frame of zeros
drop-replicate : (z a n : ℕ) → a ≤ n → drop a (replicate n z) ≡ replicate (n - a) z
drop-replicate z zero n l = let e : n - 0 ≡ n = omega arith in rw e refl
drop-replicate z (suc a) zero l = absurd (omega (arith, l))
drop-replicate z (suc a) (suc n) l = let e : suc n - suc a ≡ n - a = omega arith in rw e (drop-replicate z a n (omega (arith, l)))

take-replicate : (z a n : ℕ) → a ≤ n → take a (replicate n z) ≡ replicate a z
take-replicate z zero n l = refl
take-replicate z (suc a) zero l = absurd (omega (arith, l))
take-replicate z (suc a) (suc n) l = ap (λ xs. z ∷ xs) (take-replicate z a n (omega (arith, l)))

mid-replicate : (z n a : ℕ) → a + 8 ≤ n → take (a + 8 - a) (drop a (replicate n z)) ≡ replicate 8 z
mid-replicate z n a l = let e : a + 8 - a ≡ 8 = omega arith in rw e (ap (take 8) (drop-replicate z a n (omega arith)) ∙ take-replicate z 8 (n - a) (omega arith))

pub entry-zero : (p : Pool) (f i : ℕ) → i < 512 → frame_at p.frames f ≡ zero_frame → entry_at p f i ≡ 0
unfolding entry_at zero_frame
entry-zero p f i l e = ap (λ (y : Frame). from_le_bytes w64 (slice_range y.bytes (8 * i) (8 * i + 8))) e ∙ ap (from_le_bytes w64) (mid-replicate 0 4096 (8 * i) (omega arith))

-- ---- valid or not
pub valid-or-not : (e : ℕ) → (is_valid e ≡ true) ⊎ (is_valid e ≡ false)
valid-or-not e = elim (cases_eq (e % 2) 1) [ inl t ↦ inl (eq-eqb _ _ t) | inr d ↦ inr (grind arith) ]

pub valid-odd : (e : ℕ) → is_valid e ≡ true → e % 2 ≡ 1
valid-odd e h = grind arith

pub invalid-even : (e : ℕ) → is_valid e ≡ false → e % 2 ≡ 0
invalid-even e h = grind arith

pub odd-valid : (e : ℕ) → e % 2 ≡ 1 → is_valid e ≡ true
odd-valid e h = eq-eqb _ _ h

pub even-invalid : (e : ℕ) → e % 2 ≡ 0 → is_valid e ≡ false
even-invalid e h = grind arith

-- ---- how many are valid
pub count-same : (p n : Pool) (f m : ℕ) → ((j : ℕ) → j < m → entry_at n f j ≡ entry_at p f j) → valid_in n f m ≡ valid_in p f m
unfolding valid_in
count-same p n f zero h = refl
count-same p n f (suc m) h = let a = count-same p n f m (λ j l. h j (omega arith)) in let b = h m (omega arith) in λ i. a i + b i % 2

pub count-set : (p n : Pool) (f m t : ℕ) → t < m → ((j : ℕ) → j < m → j ≢ t → entry_at n f j ≡ entry_at p f j) → valid_in n f m + entry_at p f t % 2 ≡ valid_in p f m + entry_at n f t % 2
unfolding valid_in
count-set p n f zero t l h = absurd (omega (arith, l))
count-set p n f (suc m) t l h = elim (cases_eq t m) [
  | inl e ↦ rw e (let a = count-same p n f m (λ j b. h j (omega arith) (omega (arith, b, e))) in omega (arith, a))
  | inr d ↦ let a = count-set p n f m t (omega (arith, l, d)) (λ j b. h j (omega arith)) in let b = ap (λ x. x % 2) (h m (omega arith) (λ x. d (sym x))) in omega (arith, a, b)
]

pub count-most : (p : Pool) (f m : ℕ) → valid_in p f m ≤ m
unfolding valid_in
count-most p f zero = omega arith
count-most p f (suc m) = omega (arith, count-most p f m)

pub count-less : (p : Pool) (f m t : ℕ) → t < m → entry_at p f t % 2 ≡ 0 → valid_in p f m < m
unfolding valid_in
count-less p f zero t l e = absurd (omega (arith, l))
count-less p f (suc m) t l e = elim (cases_eq t m) [
  | inl s ↦ let e2 : entry_at p f m % 2 ≡ 0 = ap (λ j. entry_at p f j % 2) (sym s) ∙ e in omega (arith, count-most p f m, e2)
  | inr d ↦ omega (arith, count-less p f m t (omega (arith, l, d)) e)
]

pub count-zero : (p : Pool) (f m : ℕ) → ((j : ℕ) → j < m → entry_at p f j ≡ 0) → valid_in p f m ≡ 0
unfolding valid_in
count-zero p f zero h = refl
count-zero p f (suc m) h = let a = count-zero p f m (λ j l. h j (omega arith)) in let b = ap (λ x. x % 2) (h m (omega arith)) in omega (arith, a, b)

pub count-none : (p : Pool) (f m t : ℕ) → t < m → valid_in p f m ≡ 0 → entry_at p f t % 2 ≡ 0
unfolding valid_in
count-none p f zero t l e = absurd (omega (arith, l))
count-none p f (suc m) t l e = elim (cases_eq t m) [
  | inl s ↦ rw s (omega (arith, e))
  | inr d ↦ count-none p f m t (omega (arith, l, d)) (omega (arith, e))
]

-- where the count isn't 0 some entry is valid
pub count-some : (p : Pool) (f m : ℕ) → valid_in p f m ≢ 0 → (t : ℕ) × ((t < m) × (is_valid (entry_at p f t) ≡ true))
unfolding valid_in
count-some p f zero h = absurd (h refl)
count-some p f (suc m) h = elim (cases_eq (entry_at p f m % 2) 1) [
  | inl e ↦ (m, (omega arith, odd-valid _ e))
  | inr d ↦ let rest = count-some p f m (λ z. h (let r : entry_at p f m % 2 ≡ 0 = omega (arith, d) in omega (arith, z, r))) in (rest.0, (omega (arith, rest.1.0), rest.1.1))
]
