-- Runs of granules within one page.
use Rattle.std.proofs.Common.{◌≡◌, ℕ, suc, zero, ◌+◌, ◌*◌, ◌/◌, ◌%◌, ◌^◌, ◌<◌, ◌≤◌, Bool, true, false, cond, Some, List, ◌++◌, length, take, drop, set, replicate, refl, sym, ap, ◌∙◌, arith, append_assoc}
use Rattle.std.proofs.lemmas.List.{length-take-le, length-append, length-drop, length-replicate, take-append-drop, replicate-append-replicate}
use Rattle.std.proofs.lemmas.Slice.{drop-append-drop}
use Rattle.std.proofs.Math.Seq.{take-append_seam}
use Rattle.mte_tags.specs.Memory.{Memory, Page, page_at, with_page, with_zero_granule, with_granule_cases, with_granule, with_granules}
use Rattle.mte_tags.specs.Runs.{with_bytes_run, with_granule_tags}
use Rattle.mte_tags.proofs.Pages.{with_page_twice, with_page_kept, page_at-with_page_same}

pub page_parts : (p : Page) (bytes tags : List ℕ) → p.bytes ≡ bytes → p.tags ≡ tags → p ≡ record { attrs = p.attrs; bytes = bytes; tags = tags }
page_parts p bytes tags e f = λ i. record { attrs = p.attrs; bytes = e i; tags = f i }

pub zeros : List ℕ → ℕ → ℕ → List ℕ
zeros xs g n = take (16 * g) xs ++ (replicate (16 * n) 0 ++ drop (16 * g + 16 * n) xs)

zeros_none : (xs : List ℕ) (g : ℕ) → zeros xs g 0 ≡ xs
unfolding zeros
zeros_none xs g = let e : 16 * g + 0 ≡ 16 * g = omega arith in ap (λ k. take (16 * g) xs ++ drop k xs) e ∙ take-append-drop (16 * g) xs

-- a granule, and then the following ones
zeros_next : (xs : List ℕ) (g n : ℕ) → 16 * g + 16 ≤ length xs → zeros (with_zero_granule xs g) (g + 1) n ≡ zeros xs g (suc n)
unfolding zeros
zeros_next xs g n h =
    let front = take (16 * g) xs ++ replicate 16 0 in
    let long : length front ≡ 16 * g + 16 = length-append (take (16 * g) xs) (replicate 16 0) ∙ omega (arith, length-take-le (16 * g) xs (omega arith), length-replicate {A = ℕ} 16 0) in
    let at : 16 * (g + 1) ≡ length front = omega arith in
    let end : 16 * (g + 1) + 16 * n ≡ 16 * g + 16 * suc n = omega arith in
    let far : 16 * g + 16 ≤ 16 * g + 16 * suc n = omega arith in
    let many : 16 + 16 * n ≡ 16 * suc n = omega arith in
    ap (λ k. take k (with_zero_granule xs g) ++ (replicate (16 * n) 0 ++ drop (16 * (g + 1) + 16 * n) (with_zero_granule xs g))) at
    ∙ ap (λ l. l ++ (replicate (16 * n) 0 ++ drop (16 * (g + 1) + 16 * n) (with_zero_granule xs g))) (take-append_seam front (drop (16 * g + 16) xs))
    ∙ ap (λ k. front ++ (replicate (16 * n) 0 ++ drop k (with_zero_granule xs g))) end
    ∙ ap (λ l. front ++ (replicate (16 * n) 0 ++ l)) (drop-append-drop (16 * g + 16) xs front (16 * g + 16 * suc n) far long)
    ∙ append_assoc (take (16 * g) xs) (replicate 16 0) (replicate (16 * n) 0 ++ drop (16 * g + 16 * suc n) xs)
    ∙ ap (λ l. take (16 * g) xs ++ l) (sym (append_assoc (replicate 16 0) (replicate (16 * n) 0) (drop (16 * g + 16 * suc n) xs)))
    ∙ ap (λ l. take (16 * g) xs ++ (l ++ drop (16 * g + 16 * suc n) xs)) (replicate-append-replicate 16 (16 * n) 0 ∙ ap (λ k. replicate k 0) many)

pub length-with-zero-granule : (xs : List ℕ) (g : ℕ) → 16 * g + 16 ≤ length xs → length (with_zero_granule xs g) ≡ length xs
length-with-zero-granule xs g h =
    length-append (take (16 * g) xs ++ replicate 16 0) (drop (16 * g + 16) xs)
    ∙ omega (arith, length-append (take (16 * g) xs) (replicate 16 0), length-take-le (16 * g) xs (omega arith), length-replicate {A = ℕ} 16 0, length-drop (16 * g + 16) xs)

-- one granule retagged
one : Page → ℕ → ℕ → Bool → Page
one p g t z = record { attrs = p.attrs; bytes = cond z (with_zero_granule p.bytes g) p.bytes; tags = set p.tags g t }

one_long : (p : Page) (g t : ℕ) (z : Bool) → 16 * g + 16 ≤ length p.bytes → length (one p g t z).bytes ≡ length p.bytes
unfolding one
one_long p g t true h = length-with-zero-granule p.bytes g h
one_long p g t false h = refl

retagged_none : (p : Page) (g t : ℕ) (z : Bool) → with_granule_tags p g 0 t z ≡ p
unfolding zeros with_bytes_run
retagged_none p g t true = sym (page_parts p (zeros p.bytes g 0) p.tags (sym (zeros_none p.bytes g)) refl)
retagged_none p g t false = refl

retagged_next : (p : Page) (g n t : ℕ) (z : Bool) → 16 * g + 16 ≤ length p.bytes → with_granule_tags (one p g t z) (g + 1) n t z ≡ with_granule_tags p g (suc n) t z
unfolding zeros with_bytes_run one
retagged_next p g n t true h = λ i. record { attrs = p.attrs; bytes = zeros_next p.bytes g n h i; tags = with_bytes_run (set p.tags g t) (g + 1) (replicate n t) }
retagged_next p g n t false h = refl

-- the tags of a run of granules in a page
pub with_granules-run : (n : ℕ) (m : Memory) (p : Page) (a t : ℕ) (z : Bool) → page_at m (a / 4096) ≡ Some p → a % 16 ≡ 0 → a % 4096 + 16 * n ≤ length p.bytes → length p.bytes ≡ 4096 → a < 2 ^ 56
    → with_granules m a n t z ≡ with_page m (a / 4096) (with_granule_tags p (a % 4096 / 16) n t z)
unfolding with_granules with_granule one
with_granules-run zero m p a t z e g h l u = sym (ap (with_page m (a / 4096)) (retagged_none p (a % 4096 / 16) t z) ∙ with_page_kept m (a / 4096) p e)
with_granules-run (suc zero) m p a t z e g h l u =
    ap (with_granule_cases m (a / 4096) (a % 4096 / 16) t z) e
    ∙ ap (with_page m (a / 4096)) (sym (retagged_none (one p (a % 4096 / 16) t z) (a % 4096 / 16 + 1) t z) ∙ retagged_next p (a % 4096 / 16) 0 t z (omega arith))
with_granules-run (suc (suc n)) m p a t z e g h l u =
    let k = a % 4096 / 16 in
    let r = one p k t z in
    let next : (a + 16) % 2 ^ 56 ≡ a + 16 = omega arith in
    let q : (a + 16) / 4096 ≡ a / 4096 = omega arith in
    let o : (a + 16) % 4096 / 16 ≡ a % 4096 / 16 + 1 = omega arith in
    let long : length r.bytes ≡ length p.bytes = one_long p k t z (omega arith) in
    ap (λ j. with_granules j ((a + 16) % 2 ^ 56) (suc n) t z) (ap (with_granule_cases m (a / 4096) k t z) e)
    ∙ ap (λ b. with_granules (with_page m (a / 4096) r) b (suc n) t z) next
    ∙ with_granules-run (suc n) (with_page m (a / 4096) r) r (a + 16) t z (rw q (page_at-with_page_same m (a / 4096) r)) (omega arith) (omega arith) (long ∙ l) (omega arith)
    ∙ ap (λ j. with_page (with_page m (a / 4096) r) j (with_granule_tags r ((a + 16) % 4096 / 16) (suc n) t z)) q
    ∙ with_page_twice m (a / 4096) r (with_granule_tags r ((a + 16) % 4096 / 16) (suc n) t z)
    ∙ ap (λ j. with_page m (a / 4096) (with_granule_tags r j (suc n) t z)) o
    ∙ ap (with_page m (a / 4096)) (retagged_next p k (suc n) t z (omega arith))
