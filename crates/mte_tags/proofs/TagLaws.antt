-- What tags and bytes a memory has after the tags of granules were changed.
use Rattle.std.proofs.Common.{◌≡◌, ◌≢◌, ℕ, suc, zero, ◌+◌, ◌-◌, ◌*◌, ◌/◌, ◌%◌, ◌^◌, ◌<◌, ◌≤◌, ◌==◌, eq-eqb, Bool, true, false, cond, Option, Some, None, List, ◌++◌, length, take, drop, set, get_or, replicate, refl, sym, ap, ◌∙◌, inl, inr, arith, get_or-set_same, get_or-set_other}
use Rattle.std.proofs.lemmas.Bool.{cases_eq, cases_lt, cond-true, cond-false}
use Rattle.std.proofs.lemmas.List.{get_or_append_left, get_or-append_right, get_or-take, get_or-drop, get_or-replicate, length-append, length-take-le, length-replicate}
use Rattle.mte_tags.specs.Memory.{Memory, Page, page_at, with_page, byte_cases, byte_at, tag_cases, tag_at, has, attrs_at, with_zero_granule, with_granule_cases, with_granule, with_granules}
use Rattle.mte_tags.proofs.Pages.{page_at-with_page_same, page_at-with_page_other}
use Rattle.mte_tags.proofs.PageLaws.{attrs_at-with_granules, page_at-attrs}
use Rattle.mte_tags.specs.Whole.{IsWhole}
use Rattle.mte_tags.proofs.Whole.{whole-with_granule}

new_of : Page → ℕ → ℕ → Bool → Page
new_of p g t z = record { attrs = p.attrs; bytes = cond z (with_zero_granule p.bytes g) p.bytes; tags = set p.tags g t }

-- the tag of another granule stays
tag_other_in : (m : Memory) (a t c : ℕ) (z : Bool) (p : Option Page) → page_at m (a / 4096) ≡ p → c / 16 ≢ a / 16
    → tag_cases (page_at (with_granule_cases m (a / 4096) (a % 4096 / 16) t z p) (c / 4096)) (c % 4096 / 16) ≡ tag_cases (page_at m (c / 4096)) (c % 4096 / 16)
unfolding new_of
tag_other_in m a t c z None e n = refl
tag_other_in m a t c z (Some p) e n =
    let new = new_of p (a % 4096 / 16) t z in
    elim (cases_eq (c / 4096) (a / 4096)) [
      | inl q ↦
          let o : c % 4096 / 16 ≢ a % 4096 / 16 = λ f. n (omega arith) in
          ap (λ k. tag_cases (page_at (with_page m (a / 4096) new) k) (c % 4096 / 16)) q
          ∙ ap (λ r. tag_cases r (c % 4096 / 16)) (page_at-with_page_same m (a / 4096) new)
          ∙ ap (λ k. cond (has p.attrs 8) k 0) (get_or-set_other p.tags (a % 4096 / 16) (c % 4096 / 16) t 0 o)
          ∙ sym (ap (λ k. tag_cases (page_at m k) (c % 4096 / 16)) q ∙ ap (λ r. tag_cases r (c % 4096 / 16)) e)
      | inr q ↦ ap (λ r. tag_cases r (c % 4096 / 16)) (page_at-with_page_other m (a / 4096) new (c / 4096) q)
    ]

pub tag_at-with_granule_other : (m : Memory) (a t c : ℕ) (z : Bool) → c / 16 ≢ a / 16 → tag_at (with_granule m a t z) c ≡ tag_at m c
unfolding tag_at with_granule
tag_at-with_granule_other m a t c z n = tag_other_in m a t c z (page_at m (a / 4096)) refl n

-- the tag of the granule is the new one, on a TAGGED page
tag_same_in : (m : Memory) (a t : ℕ) (z : Bool) (p : Page) → page_at m (a / 4096) ≡ Some p → has p.attrs 8 ≡ true → IsWhole m
    → tag_cases (page_at (with_granule_cases m (a / 4096) (a % 4096 / 16) t z (Some p)) (a / 4096)) (a % 4096 / 16) ≡ t
unfolding new_of
tag_same_in m a t z p e u h =
    let w = h.pages (a / 4096) p e in
    ap (λ r. tag_cases r (a % 4096 / 16)) (page_at-with_page_same m (a / 4096) (new_of p (a % 4096 / 16) t z))
    ∙ cond-true _ _ _ u
    ∙ get_or-set_same p.tags (a % 4096 / 16) t 0 (omega (arith, w.tags))

pub tag_at-with_granule_same : (m : Memory) (a t c x : ℕ) (z : Bool) → c / 16 ≡ a / 16 → attrs_at m (c / 4096) ≡ Some x → has x 8 ≡ true → IsWhole m → tag_at (with_granule m a t z) c ≡ t
unfolding tag_at with_granule
tag_at-with_granule_same m a t c x z g e u h =
    let q : c / 4096 ≡ a / 4096 = omega arith in
    let o : c % 4096 / 16 ≡ a % 4096 / 16 = omega arith in
    let p = page_at-attrs m (a / 4096) x (ap (attrs_at m) (sym q) ∙ e) in
    ap (λ k. tag_cases (page_at (with_granule m a t z) k) (c % 4096 / 16)) q
    ∙ ap (λ k. tag_cases (page_at (with_granule m a t z) (a / 4096)) k) o
    ∙ ap (λ r. tag_cases (page_at (with_granule_cases m (a / 4096) (a % 4096 / 16) t z r) (a / 4096)) (a % 4096 / 16)) p.1.0
    ∙ tag_same_in m a t z p.0 p.1.0 (ap (λ k. has k 8) p.1.1 ∙ u) h

attrs_kept : (m : Memory) (a t r : ℕ) (z : Bool) → attrs_at (with_granule m a t z) r ≡ attrs_at m r
unfolding with_granules
attrs_kept m a t r z = attrs_at-with_granules 1 m a t z r

-- granules outside a run keep their tags
pub tag_at-with_granules_out : (n : ℕ) (m : Memory) (a t c : ℕ) (z : Bool) → a < 2 ^ 56 → ((i : ℕ) → i < n → c / 16 ≢ (a + 16 * i) % 2 ^ 56 / 16) → tag_at (with_granules m a n t z) c ≡ tag_at m c
unfolding with_granules
tag_at-with_granules_out zero m a t c z u o = refl
tag_at-with_granules_out (suc n) m a t c z u o =
    tag_at-with_granules_out n (with_granule m a t z) ((a + 16) % 2 ^ 56) t c z (omega arith) (λ i l e. o (i + 1) (omega arith) (e ∙ omega arith))
    ∙ tag_at-with_granule_other m a t c z (λ e. o 0 (omega arith) (e ∙ omega arith))

-- a tag that is the new one already stays
tag_stays : (n : ℕ) (m : Memory) (a t c x : ℕ) (z : Bool) → tag_at m c ≡ t → attrs_at m (c / 4096) ≡ Some x → has x 8 ≡ true → IsWhole m → tag_at (with_granules m a n t z) c ≡ t
unfolding with_granules
tag_stays zero m a t c x z h e u w = h
tag_stays (suc n) m a t c x z h e u w =
    let one : tag_at (with_granule m a t z) c ≡ t = elim (cases_eq (c / 16) (a / 16)) [
      | inl g ↦ tag_at-with_granule_same m a t c x z g e u w
      | inr g ↦ tag_at-with_granule_other m a t c z g ∙ h
    ] in
    tag_stays n (with_granule m a t z) ((a + 16) % 2 ^ 56) t c x z one (attrs_kept m a t (c / 4096) z ∙ e) u (whole-with_granule m a t z w)

-- granules of a run have the new tag, on TAGGED pages
pub tag_at-with_granules_in : (n : ℕ) (m : Memory) (a t c x i : ℕ) (z : Bool) → a < 2 ^ 56 → i < n → c / 16 ≡ (a + 16 * i) % 2 ^ 56 / 16 → attrs_at m (c / 4096) ≡ Some x → has x 8 ≡ true → IsWhole m
    → tag_at (with_granules m a n t z) c ≡ t
unfolding with_granules
tag_at-with_granules_in zero m a t c x i z u l g e f w = absurd (omega arith)
tag_at-with_granules_in (suc n) m a t c x zero z u l g e f w =
    let first : c / 16 ≡ a / 16 = g ∙ omega arith in
    tag_stays n (with_granule m a t z) ((a + 16) % 2 ^ 56) t c x z (tag_at-with_granule_same m a t c x z first e f w) (attrs_kept m a t (c / 4096) z ∙ e) f (whole-with_granule m a t z w)
tag_at-with_granules_in (suc n) m a t c x (suc i) z u l g e f w =
    tag_at-with_granules_in n (with_granule m a t z) ((a + 16) % 2 ^ 56) t c x i z (omega arith) (omega arith) (g ∙ omega arith) (attrs_kept m a t (c / 4096) z ∙ e) f (whole-with_granule m a t z w)

differs : (o g : ℕ) → o < 16 * g → o / 16 ≢ g
differs o g h = λ e. omega arith

differs_above : (o g : ℕ) → 16 * g + 16 ≤ o → o / 16 ≢ g
differs_above o g h = λ e. omega arith

-- the bytes of a page with a granule zero
zeroed_at : (xs : List ℕ) (g o : ℕ) → 16 * g + 16 ≤ length xs → get_or (with_zero_granule xs g) o 0 ≡ cond (o / 16 == g) 0 (get_or xs o 0)
zeroed_at xs g o h =
    let front = take (16 * g) xs ++ replicate 16 0 in
    let low : length (take (16 * g) xs) ≡ 16 * g = length-take-le (16 * g) xs (omega arith) in
    let long : length front ≡ 16 * g + 16 = length-append (take (16 * g) xs) (replicate 16 0) ∙ omega (arith, low, length-replicate {A = ℕ} 16 0) in
    elim (cases_lt o (16 * g)) [
      | inl a ↦
          let no : (o / 16 == g) ≡ false = grind (arith, differs o g a) in
          get_or_append_left front (drop (16 * g + 16) xs) 0 o (omega arith)
          ∙ get_or_append_left (take (16 * g) xs) (replicate 16 0) 0 o (omega arith)
          ∙ get_or-take (16 * g) xs o 0 a
          ∙ sym (cond-false _ _ _ no)
      | inr a ↦ elim (cases_lt o (16 * g + 16)) [
        | inl b ↦
            let yes : (o / 16 == g) ≡ true = eq-eqb _ _ (omega arith) in
            get_or_append_left front (drop (16 * g + 16) xs) 0 o (omega arith)
            ∙ get_or-append_right (take (16 * g) xs) (replicate 16 0) (16 * g) o 0 low a
            ∙ get_or-replicate 16 (o - 16 * g) 0 0 (omega arith)
            ∙ sym (cond-true _ _ _ yes)
        | inr b ↦
            let no : (o / 16 == g) ≡ false = grind (arith, differs_above o g b) in
            let e : 16 * g + 16 + (o - (16 * g + 16)) ≡ o = omega arith in
            get_or-append_right front (drop (16 * g + 16) xs) (16 * g + 16) o 0 long b
            ∙ get_or-drop (16 * g + 16) xs (o - (16 * g + 16)) 0
            ∙ ap (λ k. get_or xs k 0) e
            ∙ sym (cond-false _ _ _ no)
      ]
    ]

byte_of_new : (xs : List ℕ) (g o : ℕ) (z : Bool) → o / 16 ≢ g → 16 * g + 16 ≤ length xs → get_or (cond z (with_zero_granule xs g) xs) o 0 ≡ get_or xs o 0
byte_of_new xs g o true n h = let no : (o / 16 == g) ≡ false = grind (arith, n) in zeroed_at xs g o h ∙ cond-false _ _ _ no
byte_of_new xs g o false n h = refl

-- a byte after a granule was retagged: 0 where its bytes were made zero, else as before
byte_after_in : (m : Memory) (a t c : ℕ) (z : Bool) (p : Option Page) → page_at m (a / 4096) ≡ p → c / 16 ≢ a / 16 → IsWhole m
    → byte_cases (page_at (with_granule_cases m (a / 4096) (a % 4096 / 16) t z p) (c / 4096)) (c % 4096) ≡ byte_cases (page_at m (c / 4096)) (c % 4096)
unfolding new_of
byte_after_in m a t c z None e n h = refl
byte_after_in m a t c z (Some p) e n h =
    let new = new_of p (a % 4096 / 16) t z in
    elim (cases_eq (c / 4096) (a / 4096)) [
      | inl q ↦
          let o : c % 4096 / 16 ≢ a % 4096 / 16 = λ f. n (omega arith) in
          ap (λ k. byte_cases (page_at (with_page m (a / 4096) new) k) (c % 4096)) q
          ∙ ap (λ r. byte_cases r (c % 4096)) (page_at-with_page_same m (a / 4096) new)
          ∙ byte_of_new p.bytes (a % 4096 / 16) (c % 4096) z o (let w = h.pages (a / 4096) p e in omega (arith, w.bytes))
          ∙ sym (ap (λ k. byte_cases (page_at m k) (c % 4096)) q ∙ ap (λ r. byte_cases r (c % 4096)) e)
      | inr q ↦ ap (λ r. byte_cases r (c % 4096)) (page_at-with_page_other m (a / 4096) new (c / 4096) q)
    ]

pub byte_at-with_granule_other : (m : Memory) (a t c : ℕ) (z : Bool) → c / 16 ≢ a / 16 → IsWhole m → byte_at (with_granule m a t z) c ≡ byte_at m c
unfolding byte_at with_granule
byte_at-with_granule_other m a t c z n h = byte_after_in m a t c z (page_at m (a / 4096)) refl n h

-- bytes outside a run of granules stay
pub byte_at-with_granules_out : (n : ℕ) (m : Memory) (a t c : ℕ) (z : Bool) → a < 2 ^ 56 → ((i : ℕ) → i < n → c / 16 ≢ (a + 16 * i) % 2 ^ 56 / 16) → IsWhole m → byte_at (with_granules m a n t z) c ≡ byte_at m c
unfolding with_granules
byte_at-with_granules_out zero m a t c z u o h = refl
byte_at-with_granules_out (suc n) m a t c z u o h =
    byte_at-with_granules_out n (with_granule m a t z) ((a + 16) % 2 ^ 56) t c z (omega arith) (λ i l e. o (i + 1) (omega arith) (e ∙ omega arith)) (whole-with_granule m a t z h)
    ∙ byte_at-with_granule_other m a t c z (λ e. o 0 (omega arith) (e ∙ omega arith)) h

-- where bytes aren't made zero they all stay
bytes_stay_in : (m : Memory) (a t c : ℕ) (p : Option Page) → page_at m (a / 4096) ≡ p → byte_cases (page_at (with_granule_cases m (a / 4096) (a % 4096 / 16) t false p) (c / 4096)) (c % 4096) ≡ byte_cases (page_at m (c / 4096)) (c % 4096)
unfolding new_of
bytes_stay_in m a t c None e = refl
bytes_stay_in m a t c (Some p) e =
    let new = new_of p (a % 4096 / 16) t false in
    elim (cases_eq (c / 4096) (a / 4096)) [
      | inl q ↦
          ap (λ k. byte_cases (page_at (with_page m (a / 4096) new) k) (c % 4096)) q
          ∙ ap (λ r. byte_cases r (c % 4096)) (page_at-with_page_same m (a / 4096) new)
          ∙ sym (ap (λ k. byte_cases (page_at m k) (c % 4096)) q ∙ ap (λ r. byte_cases r (c % 4096)) e)
      | inr q ↦ ap (λ r. byte_cases r (c % 4096)) (page_at-with_page_other m (a / 4096) new (c / 4096) q)
    ]

pub byte_at-with_granules_kept : (n : ℕ) (m : Memory) (a t c : ℕ) → byte_at (with_granules m a n t false) c ≡ byte_at m c
unfolding with_granules with_granule byte_at
byte_at-with_granules_kept zero m a t c = refl
byte_at-with_granules_kept (suc n) m a t c =
    byte_at-with_granules_kept n (with_granule m a t false) ((a + 16) % 2 ^ 56) t c ∙ bytes_stay_in m a t c (page_at m (a / 4096)) refl

-- a byte of a granule whose bytes were made zero
zero_same_in : (m : Memory) (a t c : ℕ) (p : Option Page) → page_at m (a / 4096) ≡ p → c / 16 ≡ a / 16 → IsWhole m → byte_cases (page_at (with_granule_cases m (a / 4096) (a % 4096 / 16) t true p) (c / 4096)) (c % 4096) ≡ 0
unfolding new_of
zero_same_in m a t c None e g h =
    let q : c / 4096 ≡ a / 4096 = omega arith in
    ap (λ k. byte_cases (page_at m k) (c % 4096)) q ∙ ap (λ r. byte_cases r (c % 4096)) e
zero_same_in m a t c (Some p) e g h =
    let new = new_of p (a % 4096 / 16) t true in
    let w = h.pages (a / 4096) p e in
    let q : c / 4096 ≡ a / 4096 = omega arith in
    let yes : (c % 4096 / 16 == a % 4096 / 16) ≡ true = eq-eqb _ _ (omega arith) in
    ap (λ k. byte_cases (page_at (with_page m (a / 4096) new) k) (c % 4096)) q
    ∙ ap (λ r. byte_cases r (c % 4096)) (page_at-with_page_same m (a / 4096) new)
    ∙ zeroed_at p.bytes (a % 4096 / 16) (c % 4096) (omega (arith, w.bytes))
    ∙ cond-true _ _ _ yes

pub byte_at-with_granule_zero : (m : Memory) (a t c : ℕ) → c / 16 ≡ a / 16 → IsWhole m → byte_at (with_granule m a t true) c ≡ 0
unfolding byte_at with_granule
byte_at-with_granule_zero m a t c g h = zero_same_in m a t c (page_at m (a / 4096)) refl g h

zero_stays : (n : ℕ) (m : Memory) (a t c : ℕ) → byte_at m c ≡ 0 → IsWhole m → byte_at (with_granules m a n t true) c ≡ 0
unfolding with_granules
zero_stays zero m a t c e h = e
zero_stays (suc n) m a t c e h =
    let one : byte_at (with_granule m a t true) c ≡ 0 = elim (cases_eq (c / 16) (a / 16)) [
      | inl g ↦ byte_at-with_granule_zero m a t c g h
      | inr g ↦ byte_at-with_granule_other m a t c true g h ∙ e
    ] in
    zero_stays n (with_granule m a t true) ((a + 16) % 2 ^ 56) t c one (whole-with_granule m a t true h)

pub byte_at-with_granules_zero : (n : ℕ) (m : Memory) (a t c i : ℕ) → a < 2 ^ 56 → i < n → c / 16 ≡ (a + 16 * i) % 2 ^ 56 / 16 → IsWhole m → byte_at (with_granules m a n t true) c ≡ 0
unfolding with_granules
byte_at-with_granules_zero zero m a t c i u l g h = absurd (omega arith)
byte_at-with_granules_zero (suc n) m a t c zero u l g h =
    zero_stays n (with_granule m a t true) ((a + 16) % 2 ^ 56) t c (byte_at-with_granule_zero m a t c (g ∙ omega arith) h) (whole-with_granule m a t true h)
byte_at-with_granules_zero (suc n) m a t c (suc i) u l g h =
    byte_at-with_granules_zero n (with_granule m a t true) ((a + 16) % 2 ^ 56) t c i (omega arith) (omega arith) (g ∙ omega arith) (whole-with_granule m a t true h)
