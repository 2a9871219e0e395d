-- Runs of bytes and granules within one page.
use Rattle.std.proofs.Common.{◌≡◌, ◌≢◌, ℕ, suc, zero, ◌+◌, ◌-◌, ◌/◌, ◌%◌, ◌<◌, ◌≤◌, ◌==◌, ◌&&◌, Bool, true, false, cond, Option, Some, None, is_none, List, [], ◌∷◌, ◌++◌, length, take, drop, set, replicate, refl, sym, ap, subst, ◌∙◌, inl, inr, arith, eq-eqb}
use Rattle.std.proofs.lemmas.List.{ext_get_or, get_or-take, get_or-drop, length-take-le, length-set, drop-set-lt, append_assoc, take_more_set, take-append-drop, drop-drop, length-replicate}
use Rattle.std.proofs.lemmas.List.FromFn.{get_or-map-range_with_len, length-map-range_with_len}
use Rattle.std.proofs.lemmas.Bool.{cases_eq, cases_lt, cases_Bool, cond-true, cond-false}
use Rattle.std.specs.List.{range_with_len, slice_range}
use Rattle.std.specs.Prelude.{slice_index}
use Rattle.mte_tags.specs.Memory.{Memory, Page, page_at, with_page, has, byte_cases, byte_at, with_byte_cases, with_byte}
use Rattle.mte_tags.specs.Accesses.{byte_fault, first_fault, or_else, fault, fault_cases, page_fault, granule_tag, bytes_at, with_bytes}
use Rattle.mte_tags.specs.declared.fault.MemFault.{MemFault}
use Rattle.mte_tags.specs.declared.access.Access.{Access}
use Rattle.mte_tags.specs.declared.fault.FaultKind.TheVariants.{Translation, Permission, TagCheck}
use Rattle.mte_tags.specs.Runs.{with_bytes_run}
use Rattle.mte_tags.specs.Inner.{first_in}
use Rattle.mte_tags.proofs.Pages.{with_page_twice, with_page_kept, page_at-with_page_same}
use Rattle.mte_tags.proofs.AddressLists.{first_none}
use Rattle.mte_tags.proofs.RunSteps.{length_range}

-- a run within one page
same_page : (a i : ℕ) → a % 4096 + i < 4096 → (a + i) / 4096 ≡ a / 4096
same_page a i h = omega arith

place_in_page : (a i : ℕ) → a % 4096 + i < 4096 → (a + i) % 4096 ≡ a % 4096 + i
place_in_page a i h = omega arith

pub first_fault_in : (m : Memory) (x : Access) (a n : ℕ) → a % 4096 + n ≤ 4096 → first_fault m x (range_with_len a n) ≡ first_in x (page_at m (a / 4096)) (range_with_len a n)
unfolding first_fault byte_fault first_in
first_fault_in m x a zero h = refl
first_fault_in m x a (suc zero) h = refl
first_fault_in m x a (suc (suc n)) h =
    let l : (a + 1) % 4096 + suc n ≤ 4096 = omega arith in
    let e : (a + 1) / 4096 ≡ a / 4096 = omega arith in
    ap (or_else (fault_cases x (page_at m (a / 4096)) a)) (first_fault_in m x (a + 1) (suc n) l ∙ ap (λ q. first_in x (page_at m q) (range_with_len (a + 1) (suc n))) e)

-- in a page that isn't there the first byte fails
pub first_in-none : (x : Access) (a n : ℕ) → 0 < n → first_in x None (range_with_len a n) ≡ Some (fault Translation x a 0)
unfolding first_in
first_in-none x a zero h = absurd (omega arith)
first_in-none x a (suc n) h = refl

-- where all bytes of a run fail alike the first does
page_fault_refused : (x : Access) (p : Page) (a : ℕ) → has p.attrs x.need ≡ false → page_fault x p a ≡ Some (fault Permission x a 0)
page_fault_refused x p a e = rw e refl

pub first_in-refused : (x : Access) (p : Page) (a n : ℕ) → 0 < n → has p.attrs x.need ≡ false → first_in x (Some p) (range_with_len a n) ≡ Some (fault Permission x a 0)
unfolding first_in
first_in-refused x p a zero h e = absurd (omega arith)
first_in-refused x p a (suc n) h e = ap (λ f. or_else f (first_in x (Some p) (range_with_len (a + 1) n))) (page_fault_refused x p a e)

pub first_in-passed : (x : Access) (p : Page) (a n : ℕ) → ((i : ℕ) → i < n → page_fault x p (a + i) ≡ None) → first_in x (Some p) (range_with_len a n) ≡ None
unfolding first_in
first_in-passed x p a zero h = refl
first_in-passed x p a (suc n) h =
    let z : page_fault x p a ≡ None = rw (let e : a ≡ a + 0 = omega arith in e) (h 0 (omega arith)) in
    ap (λ f. or_else f (first_in x (Some p) (range_with_len (a + 1) n))) z
    ∙ first_in-passed x p (a + 1) n (λ i l. let e : a + 1 + i ≡ a + (i + 1) = omega arith in rw e (h (i + 1) (omega arith)))

pub first_in-untagged : (x : Access) (p : Page) (a n : ℕ) → has p.attrs x.need ≡ true → (x.checked && has p.attrs 8) ≡ false → first_in x (Some p) (range_with_len a n) ≡ None
first_in-untagged x p a n e f = first_in-passed x p a n (λ i l. rw (e, f) refl)

-- a run of which the page's attributes, w, refuse each byte
pub refused_passes : (x : Access) (p : Page) (a n w : ℕ) → w ≡ p.attrs → 0 < n → has w x.need ≡ false
    → has w x.need ≡ is_none (first_in x (Some p) (range_with_len a n))
refused_passes x p a n w s h e = e ∙ sym (ap is_none (first_in-refused x p a n h (subst (λ k. has k x.need ≡ false) s e)))

-- a run without a comparison of tags, on a page with attributes w
pub uncompared_passes : (x : Access) (p : Page) (a n w : ℕ) → w ≡ p.attrs → 0 < n → (x.checked && has w 8) ≡ false
    → has w x.need ≡ is_none (first_in x (Some p) (range_with_len a n))
uncompared_passes x p a n w s h f = elim (cases_Bool (has w x.need)) [
  | inl e ↦
      e ∙ sym (ap is_none (first_in-untagged x p a n (subst (λ k. has k x.need ≡ true) s e) (subst (λ k. (x.checked && has k 8) ≡ false) s f)))
  | inr e ↦ refused_passes x p a n w s h e
]

-- a run within one granule
same_granule : (a i : ℕ) → a % 16 + i < 16 → (a + i) % 4096 / 16 ≡ a % 4096 / 16
same_granule a i h = omega arith

cond_same : (b : Bool) (f : Option MemFault) → cond b f f ≡ f
cond_same true f = refl
cond_same false f = refl

granule_passed : (x : Access) (p : Page) (a : ℕ) → has p.attrs x.need ≡ true → granule_tag p a ≡ x.tag → page_fault x p a ≡ None
granule_passed x p a e f =
    cond-true _ _ _ e
    ∙ ap (λ t. cond (x.checked && has p.attrs 8) t None) (cond-true _ _ _ (eq-eqb (granule_tag p a) x.tag f))
    ∙ cond_same (x.checked && has p.attrs 8) None

pub first_in-granule : (x : Access) (p : Page) (a n : ℕ) → a % 16 + n ≤ 16 → has p.attrs x.need ≡ true → granule_tag p a ≡ x.tag → first_in x (Some p) (range_with_len a n) ≡ None
first_in-granule x p a n h e f =
    first_in-passed x p a n (λ i l. granule_passed x p (a + i) e (ap (λ o. slice_index p.tags o) (same_granule a i (omega arith)) ∙ f))

pub first_in-tag : (x : Access) (p : Page) (a n : ℕ) → 0 < n → has p.attrs x.need ≡ true → (x.checked && has p.attrs 8) ≡ true → granule_tag p a ≢ x.tag → first_in x (Some p) (range_with_len a n) ≡ Some (fault TagCheck x a (granule_tag p a))
unfolding first_in
first_in-tag x p a zero h e f d = absurd (omega arith)
first_in-tag x p a (suc n) h e f d =
    let t : (granule_tag p a == x.tag) ≡ false = grind arith in
    ap (λ g. or_else g (first_in x (Some p) (range_with_len (a + 1) n))) (cond-true _ _ _ e ∙ cond-true _ _ _ f ∙ cond-false _ _ _ t)

-- a run within one granule is one within its page
pub granule_in_page : (a n : ℕ) → a % 16 + n ≤ 16 → a % 4096 + n ≤ 4096
granule_in_page a n h = omega arith

-- whether a run within one granule passes
pub granule_passes : (x : Access) (p : Page) (a n : ℕ) → 0 < n → a % 16 + n ≤ 16 → has p.attrs x.need ≡ true → (x.checked && has p.attrs 8) ≡ true → (granule_tag p a == x.tag) ≡ is_none (first_in x (Some p) (range_with_len a n))
granule_passes x p a n h k e f = elim (cases_eq (granule_tag p a) x.tag) [
  | inl same ↦ eq-eqb _ _ same ∙ sym (ap is_none (first_in-granule x p a n k e same))
  | inr other ↦ let t : (granule_tag p a == x.tag) ≡ false = grind arith in t ∙ sym (ap is_none (first_in-tag x p a n h e f other))
]

-- a run goes on where its first granule passed
pub first_in-append : (x : Access) (p : Page) (a n k : ℕ) → first_in x (Some p) (range_with_len a n) ≡ None → first_in x (Some p) (range_with_len a (n + k)) ≡ first_in x (Some p) (range_with_len (a + n) k)
unfolding first_in
first_in-append x p a zero k h = let e : a + 0 ≡ a = omega arith in let f : 0 + k ≡ k = omega arith in rw (e, f) refl
first_in-append x p a (suc n) k h =
    let e : suc n + k ≡ suc (n + k) = omega arith in
    let f : a + 1 + n ≡ a + suc n = omega arith in
    let both = first_none (page_fault x p a) (first_in x (Some p) (range_with_len (a + 1) n)) h in
    ap (λ j. first_in x (Some p) (range_with_len a j)) e
    ∙ ap (λ g. or_else g (first_in x (Some p) (range_with_len (a + 1) (n + k)))) both.0
    ∙ first_in-append x p (a + 1) n k both.1
    ∙ ap (λ b. first_in x (Some p) (range_with_len b k)) f

pub first_in-next : (x : Access) (p : Page) (a n left : ℕ) → a % 16 + n ≤ 16 → n ≤ left → has p.attrs x.need ≡ true → granule_tag p a ≡ x.tag
    → first_in x (Some p) (range_with_len a left) ≡ first_in x (Some p) (range_with_len (a + n) (left - n))
first_in-next x p a n left h l e f =
    let k : left ≡ n + (left - n) = omega arith in
    ap (λ j. first_in x (Some p) (range_with_len a j)) k ∙ first_in-append x p a n (left - n) (first_in-granule x p a n h e f)

-- the same of a run whose first granule passed, and which ends in the next one
two_granules_pass : (x : Access) (p : Page) (a n : ℕ) → 16 < a % 16 + n → n ≤ 16 → a % 4096 + n ≤ 4096 → has p.attrs x.need ≡ true → (x.checked && has p.attrs 8) ≡ true → granule_tag p a ≡ x.tag
    → (granule_tag p (a + n - 1) == x.tag) ≡ is_none (first_in x (Some p) (range_with_len a n))
two_granules_pass x p a n h k inside e f same =
    let first = 16 - a % 16 in
    let place : (a + n - 1) % 4096 / 16 ≡ (a + first) % 4096 / 16 = omega arith in
    ap (λ o. slice_index p.tags o == x.tag) place
    ∙ granule_passes x p (a + first) (n - first) (omega arith) (omega arith) e f
    ∙ sym (ap is_none (first_in-next x p a first n (omega arith) (omega arith) e same))

-- whether a run of at most 16 bytes passes whose first granule does
pub short_run_passes : (x : Access) (p : Page) (a n : ℕ) → 0 < n → n ≤ 16 → a % 4096 + n ≤ 4096 → has p.attrs x.need ≡ true → (x.checked && has p.attrs 8) ≡ true → granule_tag p a ≡ x.tag
    → (granule_tag p (a + n - 1) == x.tag) ≡ is_none (first_in x (Some p) (range_with_len a n))
short_run_passes x p a n h k inside e f same = elim (cases_lt 16 (a % 16 + n)) [
  | inl two ↦ two_granules_pass x p a n two k inside e f same
  | inr one ↦
      let place : (a + n - 1) % 4096 / 16 ≡ a % 4096 / 16 = omega (arith, one, h) in
      ap (λ o. slice_index p.tags o == x.tag) place ∙ granule_passes x p a n h one e f
]

-- what a run in a page holds
pub bytes_at-run : (m : Memory) (p : Page) (a n : ℕ) → page_at m (a / 4096) ≡ Some p → n ≤ length (drop (a % 4096) p.bytes) → a % 4096 + n ≤ 4096
    → bytes_at m (range_with_len a n) ≡ slice_range p.bytes (a % 4096) (a % 4096 + n)
unfolding bytes_at byte_at
bytes_at-run m p a n e room h =
    let k : a % 4096 + n - a % 4096 ≡ n = omega arith in
    ext_get_or 0 _ _ (length-map-range_with_len (byte_at m) a n ∙ sym (length-take-le n (drop (a % 4096) p.bytes) room))
    (λ i li.
    let below : i < n = omega (arith, length-map-range_with_len (byte_at m) a n, li) in
    get_or-map-range_with_len (byte_at m) a n i (a + i) 0 below refl
    ∙ ap (λ q. byte_cases (page_at m q) ((a + i) % 4096)) (same_page a i (omega arith))
    ∙ ap (λ q. byte_cases q ((a + i) % 4096)) e
    ∙ ap (slice_index p.bytes) (place_in_page a i (omega arith))
    ∙ sym (get_or-take n (drop (a % 4096) p.bytes) i 0 below ∙ get_or-drop (a % 4096) p.bytes i 0))
    ∙ ap (λ j. take j (drop (a % 4096) p.bytes)) (sym k)

pub with_bytes-run : (bs : List ℕ) (m : Memory) (p : Page) (a : ℕ) → page_at m (a / 4096) ≡ Some p → a % 4096 + length bs ≤ 4096
    → with_bytes m (range_with_len a (length bs)) bs ≡ with_page m (a / 4096) (record p { bytes = with_bytes_run p.bytes (a % 4096) bs })
unfolding with_bytes with_byte with_bytes_run
with_bytes-run [] m p a e h = sym (with_page_kept m (a / 4096) p e)
with_bytes-run (b ∷ []) m p a e h = ap (with_byte_cases m (a / 4096) (a % 4096) b) e
with_bytes-run (b ∷ c ∷ bs) m p a e h =
    let r : Page = record p { bytes = set p.bytes (a % 4096) b } in
    let q : (a + 1) / 4096 ≡ a / 4096 = omega arith in
    let o : (a + 1) % 4096 ≡ a % 4096 + 1 = omega arith in
    let w : with_byte m a b ≡ with_page m (a / 4096) r = ap (with_byte_cases m (a / 4096) (a % 4096) b) e in
    ap (λ k. with_bytes k (range_with_len (a + 1) (length (c ∷ bs))) (c ∷ bs)) w
    ∙ with_bytes-run (c ∷ bs) (with_page m (a / 4096) r) r (a + 1) (rw q (page_at-with_page_same m (a / 4096) r)) (omega arith)
    ∙ ap (λ k. with_page (with_page m (a / 4096) r) k (record r { bytes = with_bytes_run r.bytes ((a + 1) % 4096) (c ∷ bs) })) q
    ∙ with_page_twice m (a / 4096) r (record r { bytes = with_bytes_run r.bytes ((a + 1) % 4096) (c ∷ bs) })
    ∙ ap (λ k. with_page m (a / 4096) (record p { bytes = with_bytes_run r.bytes k (c ∷ bs) })) o

pub spliced_is : (bs xs : List ℕ) (o : ℕ) → o + length bs ≤ length xs → with_bytes_run xs o bs ≡ take o xs ++ (bs ++ drop (o + length bs) xs)
unfolding with_bytes_run
spliced_is [] xs o h = let e : o + 0 ≡ o = omega arith in rw e (sym (take-append-drop o xs))
spliced_is (b ∷ bs) xs o h =
    let l : o + 1 + length bs ≤ length (set xs o b) = omega (arith, length-set xs o b) in
    let lt : o < length xs = omega arith in
    let e : o + 1 + length bs ≡ o + suc (length bs) = omega arith in
    let lt' : o < o + suc (length bs) = omega arith in
    spliced_is bs (set xs o b) (o + 1) l
    ∙ ap (λ t. t ++ (bs ++ drop (o + 1 + length bs) (set xs o b))) (take_more_set xs o b lt)
    ∙ append_assoc (take o xs) (b ∷ []) (bs ++ drop (o + 1 + length bs) (set xs o b))
    ∙ ap (λ t. take o xs ++ (b ∷ (bs ++ t))) (ap (λ k. drop k (set xs o b)) e ∙ drop-set-lt (o + suc (length bs)) xs o b lt')

-- a run that was copied in
pub copied_in : (bs ys xs : List ℕ) (o n : ℕ) → ys ≡ bs → length bs ≡ n → o + length bs ≤ length xs → take o xs ++ (ys ++ drop (o + n - o) (drop o xs)) ≡ with_bytes_run xs o bs
copied_in bs ys xs o n same e h =
    let k : o + n - o ≡ length bs = omega arith in
    ap (λ l. take o xs ++ (l ++ drop (o + n - o) (drop o xs))) same
    ∙ ap (λ j. take o xs ++ (bs ++ drop j (drop o xs))) k
    ∙ ap (λ l. take o xs ++ (bs ++ l)) (drop-drop (length bs) o xs)
    ∙ sym (spliced_is bs xs o h)

-- a part of a list that was filled
pub filled : (xs ys : List ℕ) (o n v : ℕ) → o + n ≤ length xs → ys ≡ replicate (length (slice_range xs o (o + n))) v
    → take o xs ++ (ys ++ drop (o + n - o) (drop o xs)) ≡ take o xs ++ (replicate n v ++ drop (o + n) xs)
filled xs ys o n v h e =
    let k : o + n - o ≡ n = omega arith in
    ap (λ l. take o xs ++ (l ++ drop (o + n - o) (drop o xs))) (e ∙ ap (λ j. replicate j v) (length_range xs o n h))
    ∙ ap (λ j. take o xs ++ (replicate n v ++ drop j (drop o xs))) k
    ∙ ap (λ l. take o xs ++ (replicate n v ++ l)) (drop-drop n o xs)

pub filled_spliced : (xs ys : List ℕ) (o n v : ℕ) → o + n ≤ length xs → ys ≡ replicate (length (slice_range xs o (o + n))) v
    → take o xs ++ (ys ++ drop (o + n - o) (drop o xs)) ≡ with_bytes_run xs o (replicate n v)
filled_spliced xs ys o n v h e =
    let l : length (replicate n v) ≡ n = length-replicate n v in
    filled xs ys o n v h e
    ∙ ap (λ j. take o xs ++ (replicate n v ++ drop (o + j) xs)) (sym l)
    ∙ sym (spliced_is (replicate n v) xs o (omega arith))
