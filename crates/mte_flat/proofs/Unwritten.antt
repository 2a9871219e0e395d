-- Slots that are not marked as written stay.
use Rattle.std.proofs.Common.{◌≡◌, ℕ, suc, zero, map, refl, sym, ◌^◌, ◌+◌, ◌<◌, true, false, List, [], ◌∷◌, ◌++◌, length, get_or, set, ap, ◌∙◌, inl, inr, arith, get_or-set_same, get_or-set_other, length-set}
use Rattle.std.proofs.lemmas.Bool.{cases_eq, cases_lt}
use Rattle.std.proofs.lemmas.List.{get_or_append_left, get_or_at, length-append, length-map}
use Rattle.std.specs.FinMap.{from_entries}
use Rattle.mte_tags.specs.Memory.{Memory, Page}
use Rattle.mte_flat.specs.Inner.Slots.{entry_of, slots_memory, AreSlots}
use Rattle.mte_flat.specs.Inner.Written.{KeepsUnwritten, without_mark}
use Rattle.mte_flat.specs.declared.slot.Slot.{Slot}

-- a slot that is marked
pub unwritten_set : (ss : List Slot) (i : ℕ) (s : Slot) → s.written ≡ true → KeepsUnwritten ss (set ss i s)
unwritten_set ss i s h = λ k d l w. elim (cases_eq k i) [
  | inl e ↦
      let long = length-set ss i s in
      let here : get_or (set ss i s) k d ≡ s = ap (λ j. get_or (set ss i s) j d) e ∙ get_or-set_same ss i s d (omega (arith, long)) in
      absurd (cc (h, w, here))
  | inr n ↦ (omega (arith, length-set ss i s), get_or-set_other ss i k s d n)
]

-- a slot more, that is marked
pub unwritten_push : (ss : List Slot) (s : Slot) → s.written ≡ true → KeepsUnwritten ss (ss ++ s ∷ [])
unwritten_push ss s h = λ k d l w.
    let long = length-append ss (s ∷ []) in
    elim (cases_lt k (length ss)) [
      | inl a ↦ (a, get_or_append_left ss (s ∷ []) d k a)
      | inr a ↦
          let here : get_or (ss ++ s ∷ []) k d ≡ s = get_or_at ss s [] d k (omega (arith, long)) in
          absurd (cc (h, w, here))
    ]

entries_set : (ss : List Slot) (i : ℕ) (s : Slot) → entry_of s ≡ entry_of (get_or ss i s) → map entry_of (set ss i s) ≡ map entry_of ss
entries_set [] i s e = refl
entries_set (t ∷ ss) zero s e = ap (λ x. x ∷ map entry_of ss) e
entries_set (t ∷ ss) (suc i) s e = ap (λ xs. entry_of t ∷ xs) (entries_set ss i s e)

-- a slot that is marked is the same page
pub memory_set : (n : Memory) (ss : List Slot) (i : ℕ) (s : Slot) → entry_of s ≡ entry_of (get_or ss i s) → slots_memory n (set ss i s) ≡ slots_memory n ss
unfolding slots_memory
memory_set n ss i s e = ap (λ es. record n { pages = from_entries es }) (entries_set ss i s e)

entries_unmarked : (ss : List Slot) → map entry_of (map without_mark ss) ≡ map entry_of ss
entries_unmarked [] = refl
entries_unmarked (t ∷ ss) = ap (λ xs. entry_of t ∷ xs) (entries_unmarked ss)

-- slots without their marks are the same pages
pub memory_unmarked : (n : Memory) (ss : List Slot) → slots_memory n (map without_mark ss) ≡ slots_memory n ss
unfolding slots_memory
memory_unmarked n ss = ap (λ es. record n { pages = from_entries es }) (entries_unmarked ss)

-- a slot without its mark, at an index
unmarked_at : (ss : List Slot) (i : ℕ) (d e : Slot) → i < length ss → entry_of (get_or (map without_mark ss) i d) ≡ entry_of (get_or ss i e)
unmarked_at [] i d e l = absurd (omega arith)
unmarked_at (s ∷ ss) zero d e l = refl
unmarked_at (s ∷ ss) (suc i) d e l = unmarked_at ss i d e (omega arith)

pub AreSlots-unmarked : (ss : List Slot) → AreSlots ss → AreSlots (map without_mark ss)
AreSlots-unmarked ss h =
    let long = length-map ss without_mark in
    let page : (i : ℕ) (d : Slot) → i < length ss → (get_or (map without_mark ss) i d).page ≡ (get_or ss i d).page =
    λ i d l. ap (λ (x : ℕ × Page). x.0) (unmarked_at ss i d d l) in
    let tags : (i : ℕ) (d : Slot) → i < length ss → (get_or (map without_mark ss) i d).tags ≡ (get_or ss i d).tags =
    λ i d l. ap (λ (x : ℕ × Page). x.1.tags) (unmarked_at ss i d d l) in
    record {
      apart = λ i j d l k e. h.apart i j d (omega (arith, long)) (omega (arith, long)) (sym (page i d (omega (arith, long))) ∙ e ∙ page j d (omega (arith, long)));
      low = λ i d l. let b : (get_or ss i d).page < 2 ^ 18 = h.low i d (omega (arith, long)) in omega (arith, page i d (omega (arith, long)));
      small = λ i d l. rw (tags i d (omega (arith, long))) (h.small i d (omega (arith, long)));
    }
