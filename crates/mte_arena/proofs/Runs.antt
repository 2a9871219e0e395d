-- A run of tags: one more at its end or before it, a run next to another, and whole bytes.
use Rattle.std.proofs.Common.{◌≡◌, ℕ, zero, suc, ◌+◌, ◌*◌, ◌/◌, ◌%◌, ◌<◌, ◌≤◌, List, [], ◌∷◌, ◌++◌, length, take, drop, replicate, slice_set, refl, sym, ap, ◌∙◌, arith}
use Rattle.std.proofs.lemmas.List.{length-set, drop-drop}
use Rattle.mte_arena.specs.Blocks.{tags_of_bytes}
use Rattle.mte_arena.specs.Frames.{with_run}
use Rattle.mte_arena.proofs.Tags.{length-tags-of-bytes, tags-of-bytes-append, tags-of-bytes-take, tags-of-bytes-drop}

-- the same list, by recursion
abbrev filled : List ℕ → ℕ → ℕ → ℕ → List ℕ
filled [] g n t = []
filled (x ∷ ts) zero zero t = x ∷ ts
filled (x ∷ ts) zero (suc n) t = t ∷ filled ts zero n t
filled (x ∷ ts) (suc g) n t = x ∷ filled ts g n t

filled_is : (ts : List ℕ) (g n e t : ℕ) → e ≡ g + n → e ≤ length ts → take g ts ++ (replicate n t ++ drop e ts) ≡ filled ts g n t
filled_is [] zero zero zero t h l = refl
filled_is [] zero zero (suc e) t h l = absurd (omega (arith, h))
filled_is [] zero (suc n) e t h l = absurd (omega (arith, h, l))
filled_is [] (suc g) n e t h l = absurd (omega (arith, h, l))
filled_is (x ∷ ts) zero zero zero t h l = refl
filled_is (x ∷ ts) zero zero (suc e) t h l = absurd (omega (arith, h))
filled_is (x ∷ ts) zero (suc n) zero t h l = absurd (omega (arith, h))
filled_is (x ∷ ts) zero (suc n) (suc e) t h l = ap (λ l. t ∷ l) (filled_is ts zero n e t (omega (arith, h)) (omega (arith, l)))
filled_is (x ∷ ts) (suc g) n zero t h l = absurd (omega (arith, h))
filled_is (x ∷ ts) (suc g) n (suc e) t h l = ap (λ l. x ∷ l) (filled_is ts g n e t (omega (arith, h)) (omega (arith, l)))

filled_none : (ts : List ℕ) (g t : ℕ) → filled ts g zero t ≡ ts
filled_none [] g t = refl
filled_none (x ∷ ts) zero t = refl
filled_none (x ∷ ts) (suc g) t = ap (λ l. x ∷ l) (filled_none ts g t)

filled_before : (ts : List ℕ) (g n t : ℕ) → g < length ts → filled (slice_set ts g t) (suc g) n t ≡ filled ts g (suc n) t
filled_before [] g n t h = absurd (omega (arith, h))
filled_before (x ∷ ts) zero n t h = refl
filled_before (x ∷ ts) (suc g) n t h = ap (λ l. x ∷ l) (filled_before ts g n t (omega (arith, h)))

filled_after : (ts : List ℕ) (g n k t : ℕ) → k ≡ g + n → k < length ts → slice_set (filled ts g n t) k t ≡ filled ts g (suc n) t
filled_after [] g n k t h l = absurd (omega (arith, l))
filled_after (x ∷ ts) zero zero zero t h l = ap (λ l. t ∷ l) (sym (filled_none ts zero t))
filled_after (x ∷ ts) zero zero (suc k) t h l = absurd (omega (arith, h))
filled_after (x ∷ ts) zero (suc n) zero t h l = absurd (omega (arith, h))
filled_after (x ∷ ts) zero (suc n) (suc k) t h l = ap (λ l. t ∷ l) (filled_after ts zero n k t (omega (arith, h)) (omega (arith, l)))
filled_after (x ∷ ts) (suc g) n zero t h l = absurd (omega (arith, h))
filled_after (x ∷ ts) (suc g) n (suc k) t h l = ap (λ l. x ∷ l) (filled_after ts g n k t (omega (arith, h)) (omega (arith, l)))

run_is : (ts : List ℕ) (g n t : ℕ) → g + n ≤ length ts → with_run ts g n t ≡ filled ts g n t
run_is ts g n t h = filled_is ts g n (g + n) t refl h

pub run_none : (ts : List ℕ) (g n t : ℕ) → n ≡ 0 → g ≤ length ts → with_run ts g n t ≡ ts
run_none ts g n t e h = run_is ts g n t (omega (arith, e, h)) ∙ ap (λ m. filled ts g m t) e ∙ filled_none ts g t

-- the element before a run
pub run_before : (ts : List ℕ) (g n t : ℕ) → g + suc n ≤ length ts → with_run (slice_set ts g t) (g + 1) n t ≡ with_run ts g (suc n) t
run_before ts g n t h =
    let next : g + 1 ≡ suc g = omega arith in
    run_is (slice_set ts g t) (g + 1) n t (omega (arith, h, length-set ts g t)) ∙ ap (λ m. filled (slice_set ts g t) m n t) next ∙
    filled_before ts g n t (omega (arith, h)) ∙ sym (run_is ts g (suc n) t h)

-- the element after a run
pub run_after : (ts : List ℕ) (g n t : ℕ) → g + suc n ≤ length ts → slice_set (with_run ts g n t) (g + n) t ≡ with_run ts g (suc n) t
run_after ts g n t h =
    ap (λ l. slice_set l (g + n) t) (run_is ts g n t (omega (arith, h))) ∙ filled_after ts g n (g + n) t refl (omega (arith, h)) ∙ sym (run_is ts g (suc n) t h)

length_filled : (ts : List ℕ) (g n t : ℕ) → length (filled ts g n t) ≡ length ts
length_filled [] g n t = refl
length_filled (x ∷ ts) zero zero t = refl
length_filled (x ∷ ts) zero (suc n) t = ap suc (length_filled ts zero n t)
length_filled (x ∷ ts) (suc g) n t = ap suc (length_filled ts g n t)

filled_on : (ts : List ℕ) (g n e m s t : ℕ) → e ≡ g + n → s ≡ n + m → filled (filled ts g n t) e m t ≡ filled ts g s t
filled_on [] g n e m s t h l = refl
filled_on (x ∷ ts) zero zero zero m s t h l = ap (λ k. filled (x ∷ ts) zero k t) (omega (arith, l))
filled_on (x ∷ ts) zero zero (suc e) m s t h l = absurd (omega (arith, h))
filled_on (x ∷ ts) zero (suc n) zero m s t h l = absurd (omega (arith, h))
filled_on (x ∷ ts) zero (suc n) (suc e) m zero t h l = absurd (omega (arith, l))
filled_on (x ∷ ts) zero (suc n) (suc e) m (suc s) t h l = ap (λ l. t ∷ l) (filled_on ts zero n e m s t (omega (arith, h)) (omega (arith, l)))
filled_on (x ∷ ts) (suc g) n zero m s t h l = absurd (omega (arith, h))
filled_on (x ∷ ts) (suc g) n (suc e) m s t h l = ap (λ l. x ∷ l) (filled_on ts g n e m s t (omega (arith, h)) l)

-- a run right after another
pub run_on : (ts : List ℕ) (g n m s t : ℕ) → s ≡ n + m → g + s ≤ length ts → with_run (with_run ts g n t) (g + n) m t ≡ with_run ts g s t
run_on ts g n m s t all h =
    ap (λ l. with_run l (g + n) m t) (run_is ts g n t (omega (arith, all, h))) ∙
    run_is (filled ts g n t) (g + n) m t (omega (arith, all, h, length_filled ts g n t)) ∙
    filled_on ts g n (g + n) m s t refl all ∙ sym (run_is ts g s t h)

filled_under : (ts : List ℕ) (g n e m s t : ℕ) → e ≡ g + n → s ≡ n + m → filled (filled ts e m t) g n t ≡ filled ts g s t
filled_under [] g n e m s t h l = refl
filled_under (x ∷ ts) zero zero zero m s t h l = filled_none (filled (x ∷ ts) zero m t) zero t ∙ ap (λ k. filled (x ∷ ts) zero k t) (omega (arith, l))
filled_under (x ∷ ts) zero zero (suc e) m s t h l = absurd (omega (arith, h))
filled_under (x ∷ ts) zero (suc n) zero m s t h l = absurd (omega (arith, h))
filled_under (x ∷ ts) zero (suc n) (suc e) m zero t h l = absurd (omega (arith, l))
filled_under (x ∷ ts) zero (suc n) (suc e) m (suc s) t h l = ap (λ l. t ∷ l) (filled_under ts zero n e m s t (omega (arith, h)) (omega (arith, l)))
filled_under (x ∷ ts) (suc g) n zero m s t h l = absurd (omega (arith, h))
filled_under (x ∷ ts) (suc g) n (suc e) m s t h l = ap (λ l. x ∷ l) (filled_under ts g n e m s t (omega (arith, h)) l)

-- a run right before another
pub run_under : (ts : List ℕ) (g n m s t : ℕ) → s ≡ n + m → g + s ≤ length ts → with_run (with_run ts (g + n) m t) g n t ≡ with_run ts g s t
run_under ts g n m s t all h =
    ap (λ l. with_run l g n t) (run_is ts (g + n) m t (omega (arith, all, h))) ∙
    run_is (filled ts (g + n) m t) g n t (omega (arith, all, h, length_filled ts (g + n) m t)) ∙
    filled_under ts g n (g + n) m s t refl all ∙ sym (run_is ts g s t h)

-- one element
pub run_one : (ts : List ℕ) (g t : ℕ) → g < length ts → slice_set ts g t ≡ with_run ts g 1 t
run_one ts g t h =
    let here : g + 0 ≡ g = omega arith in
    sym ((λ i. slice_set (run_none ts g 0 t refl (omega (arith, h)) i) (here i) t)) ∙ run_after ts g 0 t (omega (arith, h))

byte_filled : (bs : List ℕ) (k g v t : ℕ) → g ≡ k * 2 → k < length bs → v % 16 ≡ t → v / 16 % 16 ≡ t → tags_of_bytes (slice_set bs k v) ≡ filled (tags_of_bytes bs) g 2 t
byte_filled [] k g v t e h low high = absurd (omega (arith, h))
byte_filled (b ∷ bs) zero zero v t e h low high = λ i. low i ∷ high i ∷ sym (filled_none (tags_of_bytes bs) zero t) i
byte_filled (b ∷ bs) zero (suc g) v t e h low high = absurd (omega (arith, e))
byte_filled (b ∷ bs) (suc k) zero v t e h low high = absurd (omega (arith, e))
byte_filled (b ∷ bs) (suc k) (suc zero) v t e h low high = absurd (omega (arith, e))
byte_filled (b ∷ bs) (suc k) (suc (suc g)) v t e h low high = ap (λ l. b % 16 ∷ b / 16 % 16 ∷ l) (byte_filled bs k g v t (omega (arith, e)) (omega (arith, h)) low high)

-- a byte that holds the tag t twice
pub run_of_byte : (bs : List ℕ) (k v t : ℕ) → k < length bs → v % 16 ≡ t → v / 16 % 16 ≡ t → tags_of_bytes (slice_set bs k v) ≡ with_run (tags_of_bytes bs) (k * 2) 2 t
run_of_byte bs k v t h low high =
    byte_filled bs k (k * 2) v t refl h low high ∙ sym (run_is (tags_of_bytes bs) (k * 2) 2 t (omega (arith, h, length-tags-of-bytes bs)))

-- two bytes that do
pub run_of_two_bytes : (bs : List ℕ) (k v t : ℕ) → k + 1 < length bs → v % 16 ≡ t → v / 16 % 16 ≡ t → tags_of_bytes (slice_set (slice_set bs k v) (k + 1) v) ≡ with_run (tags_of_bytes bs) (k * 2) 4 t
run_of_two_bytes bs k v t h low high =
    let next : (k + 1) * 2 ≡ k * 2 + 2 = omega arith in
    run_of_byte (slice_set bs k v) (k + 1) v t (omega (arith, h, length-set bs k v)) low high ∙
    (λ i. with_run (run_of_byte bs k v t (omega (arith, h)) low high i) (next i) 2 t) ∙
    run_on (tags_of_bytes bs) (k * 2) 2 2 4 t (omega arith) (omega (arith, h, length-tags-of-bytes bs))

pub pairs-replicate : (n v t : ℕ) → v % 16 ≡ t → v / 16 % 16 ≡ t → tags_of_bytes (replicate n v) ≡ replicate (n * 2) t
pairs-replicate zero v t low high = refl
pairs-replicate (suc n) v t low high = let more : suc n * 2 ≡ suc (suc (n * 2)) = omega arith in
    rw more (λ i. low i ∷ high i ∷ pairs-replicate n v t low high i)

-- n bytes from k on that hold the tag t twice
pub run_of_pairs : (bs : List ℕ) (k n v t : ℕ) → v % 16 ≡ t → v / 16 % 16 ≡ t → tags_of_bytes (take k bs ++ (replicate n v ++ drop n (drop k bs))) ≡ with_run (tags_of_bytes bs) (k * 2) (n * 2) t
run_of_pairs bs k n v t low high =
    tags-of-bytes-append (take k bs) (replicate n v ++ drop n (drop k bs)) ∙
    (λ i. tags-of-bytes-take k bs i ++ (tags-of-bytes-append (replicate n v) (drop n (drop k bs)) ∙
    (λ j. pairs-replicate n v t low high j ++ (tags-of-bytes-drop n (drop k bs) ∙ ap (drop (n * 2)) (tags-of-bytes-drop k bs) ∙ drop-drop (n * 2) (k * 2) (tags_of_bytes bs)) j)) i)
