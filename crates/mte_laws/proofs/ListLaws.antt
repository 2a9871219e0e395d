-- What a heap and a list of live chunks hold after a call.
use Rattle.std.proofs.Common.{◌≡◌, ◌≢◌, ℕ, ◌⊎◌, Some, None, List, sym, ap, subst, ◌∙◌, inl, inr}
use Rattle.std.proofs.lemmas.Bool.{cases_eq, cond-true, cond-false}
use Rattle.std.specs.Ordering.{nat_cmp, eq_by_cmp}
use Rattle.std.specs.Cmp.{nat_cmp_total}
use Rattle.std.specs.FinMap.{get-insert, get-remove}
use Rattle.mte_tags.proofs.Pages.{tied_same, tied_other}
use Rattle.scudo_heap.specs.Stacks.{StackState, ClassHeap, pages_of, with_stack}
use Rattle.scudo_heap.specs.declared.chunk.Place.{Place}
use Rattle.mte_laws.specs.LiveChunks.{IsPlace, BlockChunk, LiveBlocks, chunk_at, with_chunk, without_chunk}
use Rattle.scudo_heap.proofs.StackLemmas.{class_at-with_class, class_at-with_class_other}
use Rattle.mte_laws.proofs.Keeps.{IsSamePages, carved-on}

-- ---- classes

pub same-pages : (h : StackState) (c : ℕ) (xs : List ℕ) → IsSamePages h (with_stack h c xs)
same-pages h c xs = record {
  pages = λ d hd. elim (cases_eq d c) [
    | inl e ↦ subst (λ t. pages_of (with_stack h c xs) t ≡ pages_of h t) (sym e) (ap (λ (k : ClassHeap). k.pages) (class_at-with_class h c (record { pages = pages_of h c; stack = xs })))
    | inr n ↦ ap (λ (k : ClassHeap). k.pages) (class_at-with_class_other h c d (record { pages = pages_of h c; stack = xs }) n)
  ];
}

pub place-on : (h h' : StackState) (p : Place) → IsSamePages h h' → IsPlace h p → IsPlace h' p
place-on h h' p s i = record { carved = carved-on h h' p.class p.block s i.carved; aligned = i.aligned; above = i.above; within = i.within; some = i.some }

-- ---- chunks

pub chunk_at-with : (l : LiveBlocks) (x : BlockChunk) (u : ℕ) (y : BlockChunk) → chunk_at (with_chunk l x) u ≡ Some y → ((u ≡ x.place.user) × (x ≡ y)) ⊎ ((u ≢ x.place.user) × (chunk_at l u ≡ Some y))
unfolding chunk_at with_chunk
chunk_at-with l x u y e = elim (cases_eq u x.place.user) [
  | inl q ↦
      let f : Some x ≡ Some y = sym (get-insert nat_cmp_total l x.place.user x u ∙ cond-true _ _ _ (ap (λ t. eq_by_cmp nat_cmp t x.place.user) q ∙ tied_same x.place.user)) ∙ e in
      inl (q, cc)
  | inr n ↦ inr (n, sym (get-insert nat_cmp_total l x.place.user x u ∙ cond-false _ _ _ (tied_other u x.place.user n)) ∙ e)
]

pub chunk_at-without : (l : LiveBlocks) (v u : ℕ) (y : BlockChunk) → chunk_at (without_chunk l v) u ≡ Some y → (u ≢ v) × (chunk_at l u ≡ Some y)
unfolding chunk_at without_chunk
chunk_at-without l v u y e = elim (cases_eq u v) [
  | inl q ↦
      let f : None ≡ Some y = sym (get-remove nat_cmp_total l v u ∙ cond-true _ _ _ (ap (λ t. eq_by_cmp nat_cmp t v) q ∙ tied_same v)) ∙ e in
      cc
  | inr n ↦ (n, sym (get-remove nat_cmp_total l v u ∙ cond-false _ _ _ (tied_other u v n)) ∙ e)
]
