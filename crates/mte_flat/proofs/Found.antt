-- The slot that was found for a page, read and written.
use Rattle.std.proofs.Common.{◌≡◌, ℕ, ◌%◌, ◌<◌, Bool, true, Option, Some, None, List, length, get_or, set, refl, sym, ap, ◌∙◌, subst}
use Rattle.std.specs.Prelude.{IfSome, IsNone, option_map}
use Rattle.std.proofs.lemmas.List.{get_or_default}
use Rattle.std.specs.List.{All}
use Rattle.mte_tags.specs.Memory.{Memory, page_at, with_page}
use Rattle.mte_flat.specs.Inner.Slots.{page_of, slots_memory, AreSlots}
use Rattle.mte_flat.specs.Inner.Places.{no_slot}
use Rattle.mte_tags.specs.Runs.{with_bytes_run, with_bytes_in, with_granule_tags}
use Rattle.mte_flat.specs.declared.slot.Slot.{Slot}
use Rattle.mte_flat.proofs.Places.{page_at-slots_some, slots_memory-set}

found_page : (n : Memory) (slots : List Slot) (s q : ℕ) (d : Slot) → AreSlots slots → s < length slots → ((e : Slot) → (get_or slots s e).page ≡ q) → page_at (slots_memory n slots) q ≡ Some (page_of (get_or slots s d))
found_page n slots s q d h l f = ap (page_at (slots_memory n slots)) (sym (f d)) ∙ page_at-slots_some n slots s d h l

abbrev IsSlotOf : List Slot → ℕ → ℕ → Type 0
IsSlotOf slots q s = (s < length slots) × ((d : Slot) → (get_or slots s d).page ≡ q)

found_in : (n : Memory) (slots : List Slot) (q : ℕ) (o : Option ℕ) → AreSlots slots → IfSome o (IsSlotOf slots q) → (IsNone o → (m : Memory) → page_at (slots_memory m slots) q ≡ None)
    → page_at (slots_memory n slots) q ≡ option_map (λ i. page_of (get_or slots i no_slot)) o
found_in n slots q None h some none = none refl n
found_in n slots q (Some s) h some none = found_page n slots s q no_slot h some.0 some.1

-- what a look-up among slots finds is the page's slot
pub found_slot : (n : Memory) (slots seen : List Slot) (q : ℕ) (o : Option ℕ) → AreSlots slots → seen ≡ slots → IfSome o (IsSlotOf seen q) → (IsNone o → (m : Memory) → page_at (slots_memory m seen) q ≡ None)
    → page_at (slots_memory n slots) q ≡ option_map (λ i. page_of (get_or slots i no_slot)) o
found_slot n slots seen q o h e some none =
    found_in n slots q o h (subst (λ xs. IfSome o (IsSlotOf xs q)) e some) (subst (λ xs. IsNone o → (m : Memory) → page_at (slots_memory m xs) q ≡ None) e none)

-- a slot whose page becomes another
pub slot_changed : (n : Memory) (slots : List Slot) (i : ℕ) (old new : Slot) → AreSlots slots → i < length slots → old ≡ get_or slots i no_slot → new.page ≡ old.page → All (λ t. t < 16) new.tags
    → slots_memory n (set slots i new) ≡ with_page (slots_memory n slots) (get_or slots i no_slot).page (page_of new)
slot_changed n slots i old new h l e page small =
    slots_memory-set n slots i new h l (page ∙ ap (λ (t : Slot). t.page) (e ∙ get_or_default slots i no_slot new l)) small
    ∙ ap (λ q. with_page (slots_memory n slots) q (page_of new)) (page ∙ ap (λ (t : Slot). t.page) e)

-- a slot with a run of its bytes replaced
pub slot_replaced : (n : Memory) (slots : List Slot) (i at : ℕ) (bs : List ℕ) (old new : Slot) → AreSlots slots → i < length slots → old ≡ get_or slots i no_slot
    → new ≡ record old { bytes = with_bytes_run old.bytes (at % 4096) bs; written = true }
    → slots_memory n (set slots i new) ≡ with_page (slots_memory n slots) (get_or slots i no_slot).page (with_bytes_in (page_of (get_or slots i no_slot)) (at % 4096) bs)
slot_replaced n slots i at bs old new h l e is =
    let tags : new.tags ≡ (get_or slots i no_slot).tags = ap (λ (t : Slot). t.tags) is ∙ ap (λ (t : Slot). t.tags) e in
    let small : All (λ t. t < 16) new.tags = rw tags (h.small i no_slot l) in
    slot_changed n slots i old new h l e (ap (λ (t : Slot). t.page) is) small
    ∙ ap (λ (t : Slot). with_page (slots_memory n slots) (get_or slots i no_slot).page (page_of t)) is
    ∙ ap (λ (t : Slot). with_page (slots_memory n slots) (get_or slots i no_slot).page (with_bytes_in (page_of t) (at % 4096) bs)) e

-- a slot with granules retagged
pub slot_retagged : (n : Memory) (slots : List Slot) (i first count tag : ℕ) (z : Bool) (old new : Slot) → AreSlots slots → i < length slots → old ≡ get_or slots i no_slot
    → new.page ≡ old.page → All (λ t. t < 16) new.tags → page_of new ≡ with_granule_tags (page_of old) first count tag z
    → slots_memory n (set slots i new) ≡ with_page (slots_memory n slots) (get_or slots i no_slot).page (with_granule_tags (page_of (get_or slots i no_slot)) first count tag z)
slot_retagged n slots i first count tag z old new h l e page small is =
    slot_changed n slots i old new h l e page small
    ∙ ap (with_page (slots_memory n slots) (get_or slots i no_slot).page) (is ∙ ap (λ (t : Slot). with_granule_tags (page_of t) first count tag z) e)
