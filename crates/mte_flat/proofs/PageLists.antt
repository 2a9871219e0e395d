-- What a list of the slots' pages says of the memory.
use Rattle.std.proofs.Common.{◌≡◌, ℕ, ◌<◌, Option, Some, List, [], ◌∷◌, length, map, cond, refl, sym, ap, ◌∙◌, arith, slice_index_or, suc, zero, Bool, true, false}
use Rattle.std.proofs.lemmas.List.{length-map}
use Rattle.std.specs.Prelude.{option_map}
use Rattle.std.specs.Ordering.{nat_cmp, eq_by_cmp}
use Rattle.std.specs.Cmp.{nat_cmp_total}
use Rattle.std.specs.FinMap.{find, get-from_entries}
use Rattle.mte_tags.specs.Memory.{Memory, Page, page_at}
use Rattle.mte_flat.specs.Inner.Slots.{page_of, slots_memory, AreSlots}
use Rattle.mte_flat.specs.Inner.Slots as slots
use Rattle.mte_flat.specs.Inner.MappedSlots.{mapped_in}
use Rattle.mte_flat.specs.MappedPages.{entry_of, attrs_in, AreApart}
use Rattle.mte_flat.specs.declared.mapped.MappedPage.{MappedPage}
use Rattle.mte_flat.specs.declared.slot.Slot.{Slot}
use Rattle.mte_flat.proofs.Places.{at_slots}

-- The attributes of a page.
abbrev attrs_of : Page → ℕ
attrs_of p = p.attrs

option_map-cond : (b : Bool) (p : Page) (o : Option Page) → option_map attrs_of (cond b (Some p) o) ≡ cond b (Some p.attrs) (option_map attrs_of o)
option_map-cond true p o = refl
option_map-cond false p o = refl

found_attrs : (ss : List Slot) (q : ℕ) → find nat_cmp q (map entry_of (map mapped_in ss)) ≡ option_map attrs_of (find nat_cmp q (map slots.entry_of ss))
found_attrs [] q = refl
found_attrs (s ∷ ss) q =
    ap (cond (eq_by_cmp nat_cmp q s.page) (Some s.attrs.0)) (found_attrs ss q)
    ∙ sym (option_map-cond (eq_by_cmp nat_cmp q s.page) (page_of s) (find nat_cmp q (map slots.entry_of ss)))

-- the list has each page, with its attributes
pub mapped_each : (n : Memory) (ss : List Slot) (q : ℕ) → attrs_in (map mapped_in ss) q ≡ option_map (λ (p : Page). p.attrs) (page_at (slots_memory n ss) q)
mapped_each n ss q =
    get-from_entries nat_cmp_total (map entry_of (map mapped_in ss)) q
    ∙ found_attrs ss q
    ∙ ap (option_map attrs_of) (sym (at_slots n ss q))

-- the number at an index
number_at : (ss : List Slot) (i : ℕ) (d : MappedPage) (e : Slot) → i < length ss → (slice_index_or (map mapped_in ss) i d).number ≡ (slice_index_or ss i e).page
number_at [] i d e l = absurd (omega arith)
number_at (s ∷ ss) zero d e l = refl
number_at (s ∷ ss) (suc i) d e l = number_at ss i d e (omega arith)

-- no page is in the list twice
pub mapped_once : (ss : List Slot) → AreSlots ss → AreApart (map mapped_in ss)
mapped_once [] h = λ i j d l k e. absurd (omega arith)
mapped_once (s ∷ ss) h = λ i j d l k e.
    let long = length-map (s ∷ ss) mapped_in in
    h.apart i j s (omega (arith, long)) (omega (arith, long))
    (sym (number_at (s ∷ ss) i d s (omega (arith, long))) ∙ e ∙ number_at (s ∷ ss) j d s (omega (arith, long)))
