-- What a list of slots has at a page.
use Rattle.std.proofs.Common.{true, ◌≡◌, ◌≢◌, ℕ, suc, zero, ◌+◌, ◌-◌, ◌^◌, ◌<◌, is_some, IsSome, cond, Option, Some, None, ◌⊎◌, List, [], ◌∷◌, ◌++◌, length, map, get_or, set, refl, sym, ap, ◌∙◌, inl, inr, arith, get_or-set_same, get_or-set_other, length-set}
use Rattle.std.proofs.lemmas.Bool.{cases_eq, cases_lt, cond-true, cond-false}
use Rattle.std.proofs.lemmas.List.{map-append, get_or_default, get_or_append_left, get_or_at, length-append, length-take-le, get_or-take}
use Rattle.std.specs.Ordering.{nat_cmp, eq_by_cmp}
use Rattle.std.specs.Cmp.{nat_cmp_total}
use Rattle.std.specs.FinMap as finite
use Rattle.std.specs.FinMap.{find, get-from_entries, from_entries_push, nat_cmp-IsAntisymmetric}
use Rattle.mte_tags.specs.Memory.{Memory, Page, page_at, with_page, without_page, pages_left, no_pages}
use Rattle.mte_tags.specs.declared.state.TagMode.TheVariants.{Sync}
use Rattle.std.specs.List.{All, swap_remove}
use Rattle.mte_flat.specs.Inner.Slots.{page_of, entry_of, slots_memory, AreSlots}
use Rattle.mte_flat.specs.declared.slot.Slot.{Slot}
use Rattle.mte_tags.proofs.Pages.{tied_same, tied_other, same_memory, rest_of, page_at-with_page_same, page_at-with_page_other, rest-with_page, page_at-without_page_same, page_at-without_page_other, rest-without_page}

pub at_slots : (n : Memory) (slots : List Slot) (q : ℕ) → page_at (slots_memory n slots) q ≡ find nat_cmp q (map entry_of slots)
unfolding page_at slots_memory
at_slots n slots q = get-from_entries nat_cmp_total (map entry_of slots) q

rest_slots : (n : Memory) (slots : List Slot) → rest_of (slots_memory n slots) ≡ rest_of n
unfolding slots_memory
rest_slots n slots = refl

-- a memory for lemmas of slots alone
abbrev pub any_memory : Memory
any_memory = no_pages 0 Sync

find_none : (slots : List Slot) (q : ℕ) → ((i : ℕ) (d : Slot) → i < length slots → (get_or slots i d).page ≢ q) → find nat_cmp q (map entry_of slots) ≡ None
find_none [] q h = refl
find_none (s ∷ ss) q h =
    cond-false _ _ _ (tied_other q s.page (λ e. h 0 s (omega arith) (sym e))) ∙ find_none ss q (λ i d l. h (suc i) d (omega arith))

pub page_at-slots_none : (n : Memory) (slots : List Slot) (q : ℕ) → ((i : ℕ) (d : Slot) → i < length slots → (get_or slots i d).page ≢ q) → page_at (slots_memory n slots) q ≡ None
page_at-slots_none n slots q h = at_slots n slots q ∙ find_none slots q h

tail_apart : (s : Slot) (ss : List Slot) → AreSlots (s ∷ ss) → AreSlots ss
tail_apart s ss h = record {
  apart = λ i j d l k e. let r : suc i ≡ suc j = h.apart (suc i) (suc j) d (omega arith) (omega arith) e in omega arith;
  low = λ i d l. h.low (suc i) d (omega arith);
  small = λ i d l. h.small (suc i) d (omega arith);
}

find_some : (slots : List Slot) (i : ℕ) (d : Slot) → AreSlots slots → i < length slots → find nat_cmp (get_or slots i d).page (map entry_of slots) ≡ Some (page_of (get_or slots i d))
find_some [] i d h l = absurd (omega arith)
find_some (s ∷ ss) zero d h l = cond-true _ _ _ (tied_same s.page)
find_some (s ∷ ss) (suc i) d h l =
    cond-false _ _ _ (tied_other (get_or ss i d).page s.page (λ e. let r : suc i ≡ 0 = h.apart (suc i) 0 d (omega arith) (omega arith) e in omega arith))
    ∙ find_some ss i d (tail_apart s ss h) (omega arith)

pub page_at-slots_some : (n : Memory) (slots : List Slot) (i : ℕ) (d : Slot) → AreSlots slots → i < length slots → page_at (slots_memory n slots) (get_or slots i d).page ≡ Some (page_of (get_or slots i d))
page_at-slots_some n slots i d h l = at_slots n slots (get_or slots i d).page ∙ find_some slots i d h l

-- a slot is changed and stays the slot of its page
pub AreSlots-set : (slots : List Slot) (i : ℕ) (s : Slot) → i < length slots → s.page ≡ (get_or slots i s).page → All (λ t. t < 16) s.tags → AreSlots slots → AreSlots (set slots i s)
AreSlots-set slots i s l e small h =
    let long = length-set slots i s in
    let page : (k : ℕ) (d : Slot) → k < length slots → (get_or (set slots i s) k d).page ≡ (get_or slots k d).page =
    λ k d lk. elim (cases_eq k i) [
      | inl r ↦ rw r (ap (λ (t : Slot). t.page) (get_or-set_same slots i s d l) ∙ e ∙ ap (λ (t : Slot). t.page) (get_or_default slots i s d l))
      | inr n ↦ ap (λ (t : Slot). t.page) (get_or-set_other slots i k s d n)
    ] in
    record {
      apart = λ j k d lj lk q. h.apart j k d (omega (arith, long)) (omega (arith, long)) (sym (page j d (omega (arith, long))) ∙ q ∙ page k d (omega (arith, long)));
      low = λ k d lk. let b : (get_or slots k d).page < 2 ^ 18 = h.low k d (omega (arith, long)) in omega (arith, page k d (omega (arith, long)));
      small = λ k d lk. elim (cases_eq k i) [
        | inl r ↦ rw r (rw (get_or-set_same slots i s d l) small)
        | inr n ↦ rw (get_or-set_other slots i k s d n) (h.small k d (omega (arith, long)))
      ];
    }

find_set : (slots : List Slot) (i q : ℕ) (s : Slot) → i < length slots → s.page ≡ (get_or slots i s).page → q ≢ s.page → find nat_cmp q (map entry_of (set slots i s)) ≡ find nat_cmp q (map entry_of slots)
find_set [] i q s l e n = refl
find_set (t ∷ ss) zero q s l e n = cond-false _ _ _ (tied_other q s.page n) ∙ sym (cond-false _ _ _ (tied_other q t.page (λ r. n (r ∙ sym e))))
find_set (t ∷ ss) (suc i) q s l e n = ap (cond (eq_by_cmp nat_cmp q t.page) (Some (page_of t))) (find_set ss i q s (omega arith) e n)

pub slots_memory-set : (n : Memory) (slots : List Slot) (i : ℕ) (s : Slot) → AreSlots slots → i < length slots → s.page ≡ (get_or slots i s).page → All (λ t. t < 16) s.tags
    → slots_memory n (set slots i s) ≡ with_page (slots_memory n slots) s.page (page_of s)
slots_memory-set n slots i s h l e small =
    same_memory _ _ (rest_slots n (set slots i s) ∙ sym (rest-with_page (slots_memory n slots) s.page (page_of s) ∙ rest_slots n slots))
    (λ q. elim (cases_eq q s.page) [
      | inl r ↦
          let here : get_or (set slots i s) i s ≡ s = get_or-set_same slots i s s l in
          rw r (ap (λ (t : Slot). page_at (slots_memory n (set slots i s)) t.page) (sym here)
          ∙ page_at-slots_some n (set slots i s) i s (AreSlots-set slots i s l e small h) (omega (arith, length-set slots i s))
          ∙ ap (λ (t : Slot). Some (page_of t)) here
          ∙ sym (page_at-with_page_same (slots_memory n slots) s.page (page_of s)))
      | inr d ↦
          at_slots n (set slots i s) q ∙ find_set slots i q s l e d ∙ sym (at_slots n slots q)
          ∙ sym (page_at-with_page_other (slots_memory n slots) s.page (page_of s) q d)
    ])

pub slots_memory-push : (n : Memory) (slots : List Slot) (s : Slot) → page_at (slots_memory n slots) s.page ≡ None
    → slots_memory n (slots ++ s ∷ []) ≡ with_page (slots_memory n slots) s.page (page_of s)
unfolding slots_memory with_page
slots_memory-push n slots s h =
    let e : map entry_of (slots ++ s ∷ []) ≡ map entry_of slots ++ entry_of s ∷ [] = map-append entry_of slots (s ∷ []) in
    ap (λ es. record n { pages = finite.from_entries es }) e
    ∙ ap (λ ps. record n { pages = ps }) (from_entries_push nat_cmp_total nat_cmp-IsAntisymmetric (map entry_of slots) s.page (page_of s) (sym (at_slots n slots s.page) ∙ h))

-- a page that isn't there is no slot's
no_slot : (n : Memory) (slots : List Slot) (q : ℕ) → AreSlots slots → page_at (slots_memory n slots) q ≡ None → (i : ℕ) (d : Slot) → i < length slots → (get_or slots i d).page ≢ q
no_slot n slots q h e i d l r =
    let some : page_at (slots_memory n slots) q ≡ Some (page_of (get_or slots i d)) = ap (page_at (slots_memory n slots)) (sym r) ∙ page_at-slots_some n slots i d h l in
    cc

-- a slot of a page that isn't there joins the slots
pub AreSlots-push : (n : Memory) (slots : List Slot) (s : Slot) → page_at (slots_memory n slots) s.page ≡ None → s.page < 2 ^ 18 → All (λ t. t < 16) s.tags → AreSlots slots → AreSlots (slots ++ s ∷ [])
AreSlots-push n slots s e under small h =
    let page = λ (t : Slot). t.page in
    let new = no_slot n slots s.page h e in
    let long : length (slots ++ s ∷ []) ≡ length slots + 1 = length-append slots (s ∷ []) in
    let left : (i : ℕ) (d : Slot) → i < length slots → get_or (slots ++ s ∷ []) i d ≡ get_or slots i d = λ i d l. get_or_append_left slots (s ∷ []) d i l in
    let end : (i : ℕ) (d : Slot) → i ≡ length slots → get_or (slots ++ s ∷ []) i d ≡ s = λ i d l. get_or_at slots s [] d i (sym l) in
    let old : (i : ℕ) (d : Slot) → i < length slots → (get_or (slots ++ s ∷ []) i d).page ≡ (get_or slots i d).page = λ i d l. ap page (left i d l) in
    let last : (i : ℕ) (d : Slot) → i ≡ length slots → (get_or (slots ++ s ∷ []) i d).page ≡ s.page = λ i d l. ap page (end i d l) in
    record {
      apart = λ i j d l k q.
          elim (cases_lt i (length slots)) [
            | inl a ↦ elim (cases_lt j (length slots)) [
              | inl b ↦ h.apart i j d a b (sym (old i d a) ∙ q ∙ old j d b)
              | inr b ↦ absurd (new i d a (sym (old i d a) ∙ q ∙ last j d (omega arith)))
            ]
            | inr a ↦ elim (cases_lt j (length slots)) [
              | inl b ↦ absurd (new j d b (sym (old j d b) ∙ sym q ∙ last i d (omega arith)))
              | inr b ↦ omega arith
            ]
          ];
      low = λ i d l. elim (cases_lt i (length slots)) [
        | inl a ↦ let b : (get_or slots i d).page < 2 ^ 18 = h.low i d a in omega (arith, old i d a)
        | inr a ↦ omega (arith, last i d (omega arith))
      ];
      small = λ i d l. elim (cases_lt i (length slots)) [
        | inl a ↦ rw (left i d a) (h.small i d a)
        | inr a ↦ let e : i ≡ length slots = omega arith in rw (end i d e) small
      ];
    }

-- as many pages as slots
pub len-slots : (n : Memory) (slots : List Slot) → AreSlots slots → finite.len (slots_memory n slots).pages ≡ length slots
unfolding slots_memory page_at
len-slots n [] h = finite.len-empty nat_cmp Page
len-slots n (s ∷ ss) h =
    let none : page_at (slots_memory n ss) s.page ≡ None = page_at-slots_none n ss s.page (λ i d l e. let r : suc i ≡ 0 = h.apart (suc i) 0 d (omega arith) (omega arith) e in omega arith) in
    let more : finite.len (slots_memory n ss).pages ≡ length ss = len-slots n ss (tail_apart s ss h) in
    finite.len-insert nat_cmp_total (slots_memory n ss).pages s.page (page_of s) ∙ cond-false _ _ _ (ap is_some none) ∙ omega arith

pub pages_left-slots : (n : Memory) (slots : List Slot) → AreSlots slots → pages_left (slots_memory n slots) ≡ n.limit - length slots
unfolding pages_left slots_memory
pages_left-slots n slots h = ap (λ k. n.limit - k) (len-slots n slots h)

none_later : (s : Slot) (ss : List Slot) (q : ℕ) → s.page ≢ q → ((j : ℕ) (d : Slot) → j < length ss → (get_or ss j d).page ≢ q) → (j : ℕ) (d : Slot) → j < length (s ∷ ss) → (get_or (s ∷ ss) j d).page ≢ q
none_later s ss q n h zero d l = n
none_later s ss q n h (suc j) d l = h j d (omega arith)

pub some_is_not_none : (o : Option Page) → IsSome o → o ≡ None → ⊥
some_is_not_none o h e = cc

-- an element that is there doesn't depend on the one read elsewhere
same_element : (slots : List Slot) (i : ℕ) (d e : Slot) → i < length slots → get_or slots i d ≡ get_or slots i e
same_element slots i d e l = get_or_default slots i d e l

page_of_any : (slots : List Slot) (s k q : ℕ) (d x : Slot) → s < length slots → k < length (swap_remove slots s d) → (get_or (swap_remove slots s d) k x).page ≡ q → (get_or (swap_remove slots s d) k d).page ≡ q
page_of_any slots s k q d x l lk e = ap (λ (t : Slot). t.page) (same_element (swap_remove slots s d) k d x lk) ∙ e

-- a slot has a page, or none has
slot_or_none : (slots : List Slot) (q : ℕ) → ((j : ℕ) × (j < length slots) × ((d : Slot) → (get_or slots j d).page ≡ q)) ⊎ ((j : ℕ) (d : Slot) → j < length slots → (get_or slots j d).page ≢ q)
slot_or_none [] q = inr (λ j d l. absurd (omega arith))
slot_or_none (s ∷ ss) q = elim (cases_eq s.page q) [
  | inl e ↦ inl (0, omega arith, λ d. e)
  | inr n ↦ elim (slot_or_none ss q) [
    | inl w ↦ inl (suc w.0, omega arith, w.2)
    | inr h ↦ inr (none_later s ss q n h)
  ]
]

-- each page that is mapped is some slot's
pub slot_of_page : (n : Memory) (slots : List Slot) (q : ℕ) → IsSome (page_at (slots_memory n slots) q) → (j : ℕ) × (j < length slots) × ((d : Slot) → (get_or slots j d).page ≡ q)
slot_of_page n slots q h = elim (slot_or_none slots q) [
  | inl w ↦ w
  | inr none ↦ let e : page_at (slots_memory n slots) q ≡ None = page_at-slots_none n slots q none in absurd (some_is_not_none (page_at (slots_memory n slots) q) h e)
]

pub any_slot : Slot
any_slot = record { page = 0; attrs = record { 0 = 0 }; bytes = []; tags = []; written = true }

pub mapped_low : (n : Memory) (slots : List Slot) (q : ℕ) → AreSlots slots → IsSome (page_at (slots_memory n slots) q) → q < 2 ^ 18
mapped_low n slots q a h =
    let w = slot_of_page n slots q h in
    let b : (get_or slots w.0 any_slot).page < 2 ^ 18 = a.low w.0 any_slot w.1 in
    omega (arith, w.2 any_slot)

pub length-swap_remove : (slots : List Slot) (s : ℕ) (d : Slot) → s < length slots → length (swap_remove slots s d) ≡ length slots - 1
length-swap_remove slots s d l = length-take-le (length slots - 1) (set slots s (get_or slots (length slots - 1) d)) (omega (arith, length-set slots s (get_or slots (length slots - 1) d)))

-- where each slot stood before another was taken out
moved : (slots : List Slot) (s k : ℕ) (d : Slot) → s < length slots → k < length (swap_remove slots s d)
    → (j : ℕ) × (j < length slots) × (j ≢ s) × ((e : Slot) → get_or (swap_remove slots s d) k e ≡ get_or slots j e) × (((k ≡ s) × (j + 1 ≡ length slots)) ⊎ ((k ≢ s) × (j ≡ k)))
moved slots s k d l b =
    let long = length-swap_remove slots s d l in
    let last = get_or slots (length slots - 1) d in
    elim (cases_eq k s) [
      | inl e ↦ (
        length slots - 1,
        omega arith,
        λ f. omega arith,
        λ x. rw e (get_or-take (length slots - 1) (set slots s last) s x (omega arith) ∙ get_or-set_same slots s last x l ∙ same_element slots (length slots - 1) d x (omega arith)),
        inl (e, omega arith),
      )
      | inr f ↦ (
        k,
        omega arith,
        f,
        λ x. get_or-take (length slots - 1) (set slots s last) k x (omega arith) ∙ get_or-set_other slots s k last x f,
        inr (f, refl),
      )
    ]

pub AreSlots-swap_remove : (slots : List Slot) (s : ℕ) (d : Slot) → s < length slots → AreSlots slots → AreSlots (swap_remove slots s d)
AreSlots-swap_remove slots s d l h =
    let long = length-swap_remove slots s d l in
    record {
      apart = λ i k e li lk q.
          let a = moved slots s i d l li in
          let b = moved slots s k d l lk in
          let same : a.0 ≡ b.0 = h.apart a.0 b.0 e a.1 b.1 (ap (λ (t : Slot). t.page) (sym (a.3 e)) ∙ q ∙ ap (λ (t : Slot). t.page) (b.3 e)) in
          elim a.4 [
            | inl x ↦ elim b.4 [ inl y ↦ omega arith | inr y ↦ omega arith ]
            | inr x ↦ elim b.4 [ inl y ↦ omega arith | inr y ↦ omega arith ]
          ];
      low = λ i e li. let a = moved slots s i d l li in rw (a.3 e) (h.low a.0 e a.1);
      small = λ i e li. let a = moved slots s i d l li in rw (a.3 e) (h.small a.0 e a.1);
    }

-- where a slot that stays stands afterwards
kept_slot : (slots : List Slot) (s j : ℕ) (d : Slot) → s < length slots → j < length slots → j ≢ s → (k : ℕ) × (k < length (swap_remove slots s d)) × ((e : Slot) → get_or (swap_remove slots s d) k e ≡ get_or slots j e)
kept_slot slots s j d l lj n =
    let long = length-swap_remove slots s d l in
    let last = get_or slots (length slots - 1) d in
    elim (cases_eq (j + 1) (length slots)) [
      | inl e ↦
          let at : length slots - 1 ≡ j = omega arith in
          (s, omega arith, λ x. get_or-take (length slots - 1) (set slots s last) s x (omega arith) ∙ get_or-set_same slots s last x l ∙ same_element slots (length slots - 1) d x (omega arith) ∙ ap (λ i. get_or slots i x) at)
      | inr f ↦ (j, omega arith, λ x. get_or-take (length slots - 1) (set slots s last) j x (omega arith) ∙ get_or-set_other slots s j last x n)
    ]

pub slots_memory-swap_remove : (n : Memory) (slots : List Slot) (s q : ℕ) (d : Slot) → AreSlots slots → s < length slots → (get_or slots s d).page ≡ q
    → slots_memory n (swap_remove slots s d) ≡ without_page (slots_memory n slots) q
slots_memory-swap_remove n slots s q d h l p =
    let new = swap_remove slots s d in
    let page = λ (t : Slot). t.page in
    same_memory _ _ (rest_slots n new ∙ sym (rest-without_page (slots_memory n slots) q ∙ rest_slots n slots))
    (λ r. elim (cases_eq r q) [
      | inl e ↦ rw e (
          page_at-slots_none n new q (λ k x lk f.
          let a = moved slots s k d l lk in
          a.2 (h.apart a.0 s d a.1 l (ap page (sym (a.3 d)) ∙ page_of_any slots s k q d x l lk f ∙ sym p)))
          ∙ sym (page_at-without_page_same (slots_memory n slots) q))
      | inr f ↦ elim (slot_or_none slots r) [
        | inl w ↦
            let k = kept_slot slots s w.0 d l w.1 (λ e. f (sym (w.2 d) ∙ ap (λ i. (get_or slots i d).page) e ∙ p)) in
            let at : (get_or new k.0 d).page ≡ r = ap page (k.2 d) ∙ w.2 d in
            ap (page_at (slots_memory n new)) (sym at)
            ∙ page_at-slots_some n new k.0 d (AreSlots-swap_remove slots s d l h) k.1
            ∙ ap (λ (t : Slot). Some (page_of t)) (k.2 d)
            ∙ sym (page_at-slots_some n slots w.0 d h w.1)
            ∙ ap (page_at (slots_memory n slots)) (w.2 d)
            ∙ sym (page_at-without_page_other (slots_memory n slots) q r f)
        | inr none ↦
            page_at-slots_none n new r (λ k x lk g. let a = moved slots s k d l lk in none a.0 x a.1 (ap page (sym (a.3 x)) ∙ g))
            ∙ sym (page_at-slots_none n slots r none)
            ∙ sym (page_at-without_page_other (slots_memory n slots) q r f)
      ]
    ])
