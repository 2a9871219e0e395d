-- The granules of a chunk and those around it: two runs of tags, of which the second goes over the first, instead of three.
use Rattle.std.proofs.Common.{◌≡◌, ◌≢◌, ℕ, suc, zero, ◌+◌, ◌-◌, ◌*◌, ◌/◌, ◌%◌, ◌^◌, ◌<◌, ◌≤◌, Bool, true, false, cond, Option, Some, None, set, refl, sym, ap, ◌∙◌, inl, inr, arith}
use Rattle.std.proofs.lemmas.Bool.{cases_eq}
use Rattle.std.proofs.lemmas.List.{set-set, set_comm}
use Rattle.mte_tags.specs.Memory.{Memory, Page, page_at, with_zero_granule, with_granule_cases, with_granule, with_granules}
use Rattle.mte_tags.proofs.Pages.{page_at-with_page_same, page_at-with_page_other, rest_of, same_memory}
use Rattle.mte_tags.proofs.StateLaws.{state-with_granules, limit-with_granules}
use Rattle.mte_tags.proofs.GranuleLists.{with_granules-append}

-- ---- a page with a granule changed

abbrev page_with : Page → ℕ → ℕ → Bool → Page
page_with p g t z = record { attrs = p.attrs; bytes = cond z (with_zero_granule p.bytes g) p.bytes; tags = set p.tags g t }

abbrev granule_in : ℕ → ℕ → Bool → Option Page → Option Page
granule_in g t z None = None
granule_in g t z (Some p) = Some (page_with p g t z)

here_in : (m : Memory) (q g t : ℕ) (z : Bool) (p : Option Page) → page_at m q ≡ p → page_at (with_granule_cases m q g t z p) q ≡ granule_in g t z p
here_in m q g t z None e = e
here_in m q g t z (Some p) e = page_at-with_page_same m q (page_with p g t z)

here : (m : Memory) (a t : ℕ) (z : Bool) (q : ℕ) → q ≡ a / 4096 → page_at (with_granule m a t z) q ≡ granule_in (a % 4096 / 16) t z (page_at m q)
unfolding with_granule
here m a t z q e = rw e (here_in m (a / 4096) (a % 4096 / 16) t z (page_at m (a / 4096)) refl)

elsewhere_in : (m : Memory) (q g t : ℕ) (z : Bool) (p : Option Page) (r : ℕ) → r ≢ q → page_at (with_granule_cases m q g t z p) r ≡ page_at m r
elsewhere_in m q g t z None r n = refl
elsewhere_in m q g t z (Some p) r n = page_at-with_page_other m q (page_with p g t z) r n

elsewhere : (m : Memory) (a t : ℕ) (z : Bool) (q : ℕ) → q ≢ a / 4096 → page_at (with_granule m a t z) q ≡ page_at m q
unfolding with_granule
elsewhere m a t z q n = elsewhere_in m (a / 4096) (a % 4096 / 16) t z (page_at m (a / 4096)) q n

rest : (m : Memory) (a t : ℕ) (z : Bool) → rest_of (with_granule m a t z) ≡ rest_of m
unfolding with_granules
rest m a t z = λ i. (limit-with_granules 1 m a t z i, state-with_granules 1 m a t z i)

-- ---- two changes

twice_in : (g t : ℕ) (z : Bool) (p : Option Page) → granule_in g t z (granule_in g 0 false p) ≡ granule_in g t z p
twice_in g t z None = refl
twice_in g t z (Some p) = λ i. Some (record { attrs = p.attrs; bytes = cond z (with_zero_granule p.bytes g) p.bytes; tags = set-set p.tags g 0 t i })

apart_in : (g h t : ℕ) (z : Bool) (p : Option Page) → g ≢ h → granule_in h t z (granule_in g 0 false p) ≡ granule_in g 0 false (granule_in h t z p)
apart_in g h t z None n = refl
apart_in g h t z (Some p) n = λ i. Some (record { attrs = p.attrs; bytes = cond z (with_zero_granule p.bytes h) p.bytes; tags = set_comm p.tags g h 0 t n i })

-- a granule is changed again
twice : (m : Memory) (a t : ℕ) (z : Bool) → with_granule (with_granule m a 0 false) a t z ≡ with_granule m a t z
twice m a t z =
    same_memory _ _ (rest (with_granule m a 0 false) a t z ∙ rest m a 0 false ∙ sym (rest m a t z))
    (λ k. elim (cases_eq k (a / 4096)) [
      | inl e ↦
          here (with_granule m a 0 false) a t z k e ∙ ap (granule_in (a % 4096 / 16) t z) (here m a 0 false k e)
          ∙ twice_in (a % 4096 / 16) t z (page_at m k) ∙ sym (here m a t z k e)
      | inr n ↦ elsewhere (with_granule m a 0 false) a t z k n ∙ elsewhere m a 0 false k n ∙ sym (elsewhere m a t z k n)
    ])

-- two granules in either order
apart : (m : Memory) (a b t : ℕ) (z : Bool) → b / 16 ≢ a / 16 → with_granule (with_granule m a 0 false) b t z ≡ with_granule (with_granule m b t z) a 0 false
apart m a b t z o =
    same_memory _ _ (rest (with_granule m a 0 false) b t z ∙ rest m a 0 false ∙ sym (rest (with_granule m b t z) a 0 false ∙ rest m b t z))
    (λ k. elim (cases_eq k (a / 4096)) [
      | inl e ↦ elim (cases_eq k (b / 4096)) [
        | inl f ↦
            here (with_granule m a 0 false) b t z k f ∙ ap (granule_in (b % 4096 / 16) t z) (here m a 0 false k e)
            ∙ apart_in (a % 4096 / 16) (b % 4096 / 16) t z (page_at m k) (λ s. o (omega arith))
            ∙ sym (here (with_granule m b t z) a 0 false k e ∙ ap (granule_in (a % 4096 / 16) 0 false) (here m b t z k f))
        | inr x ↦
            elsewhere (with_granule m a 0 false) b t z k x ∙ here m a 0 false k e
            ∙ sym (here (with_granule m b t z) a 0 false k e ∙ ap (granule_in (a % 4096 / 16) 0 false) (elsewhere m b t z k x))
      ]
      | inr n ↦ elim (cases_eq k (b / 4096)) [
        | inl f ↦
            here (with_granule m a 0 false) b t z k f ∙ ap (granule_in (b % 4096 / 16) t z) (elsewhere m a 0 false k n)
            ∙ sym (elsewhere (with_granule m b t z) a 0 false k n ∙ here m b t z k f)
        | inr x ↦
            elsewhere (with_granule m a 0 false) b t z k x ∙ elsewhere m a 0 false k n
            ∙ sym (elsewhere (with_granule m b t z) a 0 false k n ∙ elsewhere m b t z k x)
      ]
    ])

-- ---- a granule and a run

-- none of a run's granules is that of an address
abbrev IsOutside : ℕ → ℕ → ℕ → Type 0
IsOutside a b n = (i : ℕ) → i < n → (b + 16 * i) % 2 ^ 56 / 16 ≢ a / 16

outside_rest : (a b n : ℕ) → IsOutside a b (suc n) → IsOutside a ((b + 16) % 2 ^ 56) n
outside_rest a b n o = λ i l e. o (i + 1) (omega arith) (omega arith)

outside_first : (a b n : ℕ) → b < 2 ^ 56 → IsOutside a b (suc n) → b / 16 ≢ a / 16
outside_first a b n h o = λ e. o 0 (omega arith) (omega arith)

run_after : (n : ℕ) (m : Memory) (a b t : ℕ) (z : Bool) → b < 2 ^ 56 → IsOutside a b n → with_granules (with_granule m a 0 false) b n t z ≡ with_granule (with_granules m b n t z) a 0 false
unfolding with_granules
run_after zero m a b t z h o = refl
run_after (suc n) m a b t z h o =
    ap (λ x. with_granules x ((b + 16) % 2 ^ 56) n t z) (apart m a b t z (outside_first a b n h o))
    ∙ run_after n (with_granule m b t z) a ((b + 16) % 2 ^ 56) t z (omega arith) (outside_rest a b n o)

run_before : (n : ℕ) (m : Memory) (a b t : ℕ) (z : Bool) → b < 2 ^ 56 → IsOutside a b n → with_granule (with_granules m b n 0 false) a t z ≡ with_granules (with_granule m a t z) b n 0 false
unfolding with_granules
run_before zero m a b t z h o = refl
run_before (suc n) m a b t z h o =
    run_before n (with_granule m b 0 false) a ((b + 16) % 2 ^ 56) t z (omega arith) (outside_rest a b n o)
    ∙ ap (λ x. with_granules x ((b + 16) % 2 ^ 56) n 0 false) (apart m b a t z (λ e. outside_first a b n h o (sym e)))

-- a run over another one
run_twice : (n : ℕ) (m : Memory) (a t : ℕ) (z : Bool) → a + 16 * n < 2 ^ 56 → with_granules (with_granules m a n 0 false) a n t z ≡ with_granules m a n t z
unfolding with_granules
run_twice zero m a t z h = refl
run_twice (suc n) m a t z h =
    let next : (a + 16) % 2 ^ 56 ≡ a + 16 = omega arith in
    let o : IsOutside a ((a + 16) % 2 ^ 56) n = λ i l e. omega arith in
    ap (λ x. with_granules x ((a + 16) % 2 ^ 56) n t z)
    (run_before n (with_granule m a 0 false) a ((a + 16) % 2 ^ 56) t z (omega arith) o ∙ ap (λ x. with_granules x ((a + 16) % 2 ^ 56) n 0 false) (twice m a t z))
    ∙ run_twice n (with_granule m a t z) ((a + 16) % 2 ^ 56) t z (omega arith)

-- ---- a run, the granule before it and the one after it

pub around : (m : Memory) (u n t : ℕ) → 16 ≤ u → u % 16 ≡ 0 → u + 16 * n + 16 < 2 ^ 56
    → with_granules (with_granules m (u - 16) (n + 2) 0 false) u n t true ≡ with_granules (with_granules (with_granules m u n t true) (u - 16) 1 0 false) (u + 16 * n) 1 0 false
unfolding with_granules
around m u n t low aligned high =
    let b = u - 16 in
    let e = u + 16 * n in
    let x = with_granules (with_granule m b 0 false) u n 0 false in
    let all : n + 2 ≡ 1 + (n + 1) = omega arith in
    let first : (b + 16 * 1) % 2 ^ 56 ≡ u = omega arith in
    let last : (u + 16 * n) % 2 ^ 56 ≡ e = omega arith in
    let split : with_granules m b (n + 2) 0 false ≡ with_granule x e 0 false =
    ap (λ k. with_granules m b k 0 false) all
    ∙ with_granules-append m b 1 (n + 1) 0 false (omega arith)
    ∙ ap (λ c. with_granules (with_granule m b 0 false) c (n + 1) 0 false) first
    ∙ with_granules-append (with_granule m b 0 false) u n 1 0 false (omega arith)
    ∙ ap (λ c. with_granule x c 0 false) last in
    ap (λ y. with_granules y u n t true) split
    ∙ run_after n x e u t true (omega arith) (λ i l s. omega arith)
    ∙ ap (λ y. with_granule y e 0 false) (run_twice n (with_granule m b 0 false) u t true (omega arith) ∙ run_after n m b u t true (omega arith) (λ i l s. omega arith))

-- the same where nothing of the block is after the run
pub around_before : (m : Memory) (u n t : ℕ) → 16 ≤ u → u % 16 ≡ 0 → u + 16 * n < 2 ^ 56
    → with_granules (with_granules m (u - 16) (1 + n) 0 false) u n t true ≡ with_granules (with_granules m u n t true) (u - 16) 1 0 false
unfolding with_granules
around_before m u n t low aligned high =
    let b = u - 16 in
    let first : (b + 16 * 1) % 2 ^ 56 ≡ u = omega arith in
    ap (λ y. with_granules y u n t true) (with_granules-append m b 1 n 0 false (omega arith) ∙ ap (λ c. with_granules (with_granule m b 0 false) c n 0 false) first)
    ∙ run_twice n (with_granule m b 0 false) u t true (omega arith)
    ∙ run_after n m b u t true (omega arith) (λ i l s. omega arith)
