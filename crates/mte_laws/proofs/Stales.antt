-- A freed chunk's granules keep the tag that the free gave until an allocation takes its block.
use Rattle.std.proofs.Common.{◌≡◌, ◌≢◌, ℕ, true, false, List, [], ◌∷◌, sym, ap, subst, ◌∙◌, inl, inr, arith}
use Rattle.std.proofs.lemmas.Bool.{cases_eq}
use Rattle.std.specs.Prelude.{nat_eq}
use Rattle.std.specs.List.{IsDistinct}
use Rattle.mte_tags.specs.Memory.{Memory, tag_at}
use Rattle.scudo_primary.specs.Pools.{is_member}
use Rattle.scudo_primary.proofs.ListLemmas.{member-other, member-first, distinct-head}
use Rattle.mte_laws.proofs.Blocks.{same-class}
use Rattle.scudo_heap.specs.Stacks.{StackState, stack_of, with_stack, after_carve}
use Rattle.mte_laws.specs.LiveChunks.{IsCarved, IsPlace}
use Rattle.scudo_heap.specs.declared.chunk.Place.{Place}
use Rattle.mte_laws.proofs.Views.{IsStacked}
use Rattle.mte_laws.proofs.Freed.{Freed, IsStale}
use Rattle.mte_laws.proofs.Keeps.{IsCallOn, IsSamePages, other}
use Rattle.scudo_heap.proofs.SoundLemmas.{stack-own, stack-other}
use Rattle.mte_laws.proofs.ListLaws.{same-pages, place-on}

-- a call on another block keeps it
pub stale-call : (m m' : Memory) (h h' : StackState) (p : Place) (t : ℕ) (f : Freed) → IsStacked h → IsPlace h p → IsCallOn m m' p t → IsSamePages h h' → f.place.block ≢ p.block → is_member (stack_of h' f.place.class) f.place.block ≡ true
    → IsStale m h f → IsStale m' h' f
stale-call m m' h h' p t f k i call pages n member st =
    let above = st.place.above in
    let within = st.place.within in
    record {
      place = place-on h h' f.place pages st.place;
      stacked = member;
      inside = λ a l u. call.out a (other m m' h h p t k i call f.place.class f.place.block a st.place.carved n (omega arith) (omega arith)) ∙ st.inside a l u;
      other = st.other;
    }

-- a block stays in the stacks where one stack became another list that has it too
pub on-stack : (h : StackState) (c : ℕ) (xs : List ℕ) (d b : ℕ) → is_member (stack_of h d) b ≡ true → (d ≡ c → is_member xs b ≡ true) → is_member (stack_of (with_stack h c xs) d) b ≡ true
on-stack h c xs d b old new = elim (cases_eq d c) [
  | inl q ↦ ap (λ t. is_member t b) (ap (stack_of (with_stack h c xs)) q ∙ stack-own h c xs) ∙ new q
  | inr n ↦ ap (λ t. is_member t b) (stack-other h c d xs n) ∙ old
]

-- a chunk that was made, where the block is still free
pub stale-after-place : (m m' : Memory) (h : StackState) (p : Place) (t : ℕ) (more : List ℕ) (f : Freed) → IsStacked h → IsPlace h p → IsCallOn m m' p t → stack_of h p.class ≡ p.block ∷ more
    → is_member (stack_of (with_stack h p.class more) f.place.class) f.place.block ≡ true → IsStale m h f → IsStale m' (with_stack h p.class more) f
stale-after-place m m' h p t more f k i call top member st =
    let n : f.place.block ≢ p.block = λ q.
    let c : f.place.class ≡ p.class = same-class h f.place.class p.class p.block k (subst (IsCarved h f.place.class) q st.place.carved) i.carved in
    let on : is_member more p.block ≡ true = sym (ap (λ xs. is_member xs p.block) (ap (stack_of (with_stack h p.class more)) c ∙ stack-own h p.class more)) ∙ sym (ap (is_member (stack_of (with_stack h p.class more) f.place.class)) q) ∙ member in
    let off : is_member more p.block ≡ false = distinct-head p.block more (subst (IsDistinct nat_eq) top (k.distinct p.class i.carved.class)) in
    cc in
    stale-call m m' h (with_stack h p.class more) p t f k i call (same-pages h p.class more) n member st

-- a chunk that was freed from another block
pub stale-after-give-back : (m m' : Memory) (h : StackState) (p : Place) (t : ℕ) (f : Freed) → IsStacked h → IsPlace h p → IsCallOn m m' p t → f.place.block ≢ p.block
    → IsStale m h f → IsStale m' (with_stack h p.class (p.block ∷ stack_of h p.class)) f
stale-after-give-back m m' h p t f k i call n st =
    stale-call m m' h (with_stack h p.class (p.block ∷ stack_of h p.class)) p t f k i call (same-pages h p.class (p.block ∷ stack_of h p.class)) n
    (on-stack h p.class (p.block ∷ stack_of h p.class) f.place.class f.place.block st.stacked (λ q. member-other p.block (stack_of h p.class) f.place.block n ∙ sym (ap (λ c. is_member (stack_of h c) f.place.block) q) ∙ st.stacked)) st

-- the chunk that was freed
pub stale-new : (m m' : Memory) (h : StackState) (p : Place) (t s : ℕ) → IsPlace h p → IsCallOn m m' p t → t ≢ s → IsStale m' (with_stack h p.class (p.block ∷ stack_of h p.class)) (record { place = p; tag = s; given = t })
stale-new m m' h p t s i call n = record {
  place = place-on h (with_stack h p.class (p.block ∷ stack_of h p.class)) p (same-pages h p.class (p.block ∷ stack_of h p.class)) i;
  stacked = ap (λ xs. is_member xs p.block) (stack-own h p.class (p.block ∷ stack_of h p.class)) ∙ member-first p.block (stack_of h p.class);
  inside = call.inside;
  other = n;
}

-- a class that got pages: a class with a free block is another one
pub stale-grown : (m m' : Memory) (h : StackState) (c n : ℕ) (f : Freed) → ((p : Place) → IsPlace h p → IsPlace (after_carve h c n) p) → stack_of h c ≡ [] → (stack_of (after_carve h c n) f.place.class ≡ stack_of h f.place.class)
    → ((a : ℕ) → tag_at m' a ≡ tag_at m a) → IsStale m h f → IsStale m' (after_carve h c n) f
stale-grown m m' h c n f on empty same tags st = record {
  place = on f.place st.place;
  stacked = ap (λ xs. is_member xs f.place.block) same ∙ st.stacked;
  inside = λ a l u. tags a ∙ st.inside a l u;
  other = st.other;
}

-- a free block's class has a stack that is not empty
pub not-empty : (h : StackState) (c d b : ℕ) → stack_of h c ≡ [] → is_member (stack_of h d) b ≡ true → d ≢ c
not-empty h c d b e member = λ q. let f : false ≡ true = sym (ap (λ xs. is_member xs b) (ap (stack_of h) q ∙ e)) ∙ member in cc
