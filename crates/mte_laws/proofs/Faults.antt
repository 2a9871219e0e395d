-- A Checked access through a tag that a granule does not have faults; what follows from Sound.
use Rattle.std.proofs.Common.{◌≡◌, ◌≢◌, ℕ, zero, suc, ◌+◌, ◌/◌, ◌%◌, ◌^◌, ◌<◌, ◌≤◌, ◌⊎◌, ◌==◌, ◌&&◌, Bool, true, false, cond, List, Option, Some, None, IsSome, refl, sym, ap, subst, ◌∙◌, inl, inr, arith}
use Rattle.std.proofs.lemmas.Bool.{cond-true, cond-false}
use Rattle.std.proofs.lemmas.Bool.Decides.{nat_tests}
use Rattle.a64_bits.specs.Addresses.{plain}
use Rattle.mte_tags.specs.Memory.{Memory, Page, has, tag_cases, tag_at, attrs_at}
use Rattle.mte_tags.specs.Accesses.{addresses, access_cases, access_fault, byte_fault, first_fault, or_else, fault, fault_cases, page_fault, tag_fault, granule_tag, read_access, write_access, read_fault, write_fault}
use Rattle.mte_tags.specs.declared.state.TagMode.TheVariants.{Sync}
use Rattle.mte_tags.specs.declared.fault.MemFault.{MemFault}
use Rattle.mte_tags.specs.declared.access.Access.{Access}
use Rattle.mte_tags.specs.declared.fault.FaultKind.TheVariants.{Permission, TagCheck}
use Rattle.mte_tags.proofs.PageLaws.{page_at-no_attrs, page_at-attrs}
use Rattle.scudo_header.specs.Classes.{size_of}
use Rattle.scudo_heap.specs.Stacks.{StackState}
use Rattle.scudo_heap.specs.declared.chunk.Place.{Place}
use Rattle.mte_laws.specs.LiveChunks.{IsPlace, IsHalfTag, BlockChunk, LiveBlocks, chunk_at}
use Rattle.scudo_heap.specs.Chunks.{end_of}
use Rattle.mte_laws.proofs.Views.{SoundBlocks}
use Rattle.mte_laws.proofs.Freed.{Freed, IsStale}
use Rattle.mte_laws.specs.Laws.{IsRefused, AreNeighbours}
use Rattle.mte_laws.proofs.Draws.{neighbours-differ}
use Rattle.mte_laws.proofs.Blocks.{apart}
use Rattle.mte_laws.proofs.BlockCalls.{room}
use Rattle.mte_laws.proofs.BlockSounds.{live_half}

-- freed: an access through the pointer to a freed chunk to one of its granules faults
-- neighbours: live chunks in neighbouring blocks have different tags, so an access through the
-- pointer to one of them to a granule of the other faults
-- apart: no two live chunks, each with the granule of its header, overlap
-- before, after: an access through the pointer to a live chunk to the granule before or after it
-- faults
pub record AreKept (m : Memory) (s : StackState) (l : LiveBlocks) : Type 0 where
  pub freed :
      (f : Freed) (a : ℕ) → IsStale m s f → f.place.user ≤ a → a < end_of f.place
      → IsRefused m f.tag a
  pub neighbours :
      (u v a : ℕ) (x y : BlockChunk) → chunk_at l u ≡ Some x → chunk_at l v ≡ Some y
      → AreNeighbours x.place y.place
      → (x.tag ≢ y.tag)
      × (y.place.user ≤ a → a < end_of y.place → IsRefused m x.tag a)
  pub apart :
      (u v : ℕ) (x y : BlockChunk) → chunk_at l u ≡ Some x → chunk_at l v ≡ Some y → u ≢ v
      → (end_of x.place + 16 ≤ y.place.user) ⊎ (end_of y.place + 16 ≤ x.place.user)
  pub before :
      (u a : ℕ) (x : BlockChunk) → chunk_at l u ≡ Some x
      → x.place.user ≤ a + 16 → a < x.place.user → IsRefused m x.tag a
  pub after :
      (u a : ℕ) (x : BlockChunk) → chunk_at l u ≡ Some x
      → end_of x.place ≤ a → a < end_of x.place + 16 → IsRefused m x.tag a

-- an address in pages of the heap, or in none
abbrev IsHeapOr : Memory → ℕ → Type 0
IsHeapOr m a = (attrs_at m (a / 4096) ≡ None) ⊎ (attrs_at m (a / 4096) ≡ Some 11)

mismatch : (b : Bool) (f g : MemFault) → IsSome (cond b (Some f) (Some g))
mismatch true f g = refl
mismatch false f g = refl

in_page : (x : Access) (r : Page) (a : ℕ) → x.checked ≡ true → r.attrs ≡ 11 → tag_cases (Some r) (a % 4096 / 16) ≢ x.tag → IsSome (page_fault x r a)
in_page x r a c e n =
    let t : granule_tag r a ≢ x.tag = λ q. n (cond-true _ _ _ (ap (λ k. has k 8) e) ∙ q) in
    let no : (granule_tag r a == x.tag) ≡ false = grind (arith, nat_tests) in
    let g : tag_fault x r a ≡ Some (fault TagCheck x a (granule_tag r a)) = cond-false _ _ _ no in
    let both : (x.checked && has r.attrs 8) ≡ true = ap (λ k. k && has r.attrs 8) c ∙ ap (λ k. has k 8) e in
    let f : cond (x.checked && has r.attrs 8) (tag_fault x r a) None ≡ Some (fault TagCheck x a (granule_tag r a)) = cond-true _ _ _ both ∙ g in
    subst (λ o. IsSome (cond (has r.attrs x.need) o (Some (fault Permission x a 0)))) (sym f) (mismatch (has r.attrs x.need) _ _)

fault_here : (m : Memory) (x : Access) (a : ℕ) → x.checked ≡ true → IsHeapOr m a → tag_at m a ≢ x.tag → IsSome (byte_fault m x a)
unfolding byte_fault tag_at
fault_here m x a c (inl e) n = subst (λ o. IsSome (fault_cases x o a)) (sym (page_at-no_attrs m (a / 4096) e)) refl
fault_here m x a c (inr e) n =
    let p = page_at-attrs m (a / 4096) 11 e in
    subst (λ o. IsSome (fault_cases x o a)) (sym p.1.0) (in_page x p.0 a c p.1.1 (λ q. n (ap (λ o. tag_cases o (a % 4096 / 16)) p.1.0 ∙ q)))

some_or : (f g : Option MemFault) → IsSome g → IsSome (or_else f g)
some_or None g h = h
some_or (Some f) g h = refl

or_some : (f g : Option MemFault) → IsSome f → IsSome (or_else f g)
or_some None g h = cc
or_some (Some f) g h = refl

-- an access of which one byte fails has a fault
pub touching : (n : ℕ) (m : Memory) (x : Access) (b i a : ℕ) → b < 2 ^ 56 → i < n → (b + i) % 2 ^ 56 ≡ a → IsSome (byte_fault m x a) → IsSome (first_fault m x (addresses b n))
unfolding first_fault addresses
touching zero m x b i a u l e h = absurd (omega arith)
touching (suc n) m x b zero a u l e h = let q : a ≡ b = omega arith in or_some (byte_fault m x b) _ (subst (λ t. IsSome (byte_fault m x t)) q h)
touching (suc n) m x b (suc i) a u l e h = some_or (byte_fault m x b) _ (touching n m x ((b + 1) % 2 ^ 56) i a (omega arith) (omega arith) (let q : ((b + 1) % 2 ^ 56 + i) % 2 ^ 56 ≡ (b + suc i) % 2 ^ 56 = omega arith in q ∙ e) h)

-- in the synchronous mode the first byte that fails is the access's fault
pub in-sync : (m : Memory) (x : Access) (xs : List ℕ) → m.state.mode ≡ Sync → IsSome (first_fault m x xs) → IsSome (access_fault m x xs)
unfolding access_fault
in-sync m x xs e h = subst (λ t. IsSome (access_cases t m x xs).fault) (sym e) h

pub refused : (m : Memory) (tag a : ℕ) → m.state.mode ≡ Sync → IsHeapOr m a → tag_at m a ≢ tag → IsRefused m tag a
unfolding read_fault write_fault
refused m tag a sync h n = λ pointer k i e l at. (
  in-sync m (read_access pointer true) (addresses (plain pointer) k) sync (touching k m (read_access pointer true) (plain pointer) i a (omega arith) l at (fault_here m (read_access pointer true) a refl h (λ q. n (q ∙ e)))),
  in-sync m (write_access pointer true) (addresses (plain pointer) k) sync (touching k m (write_access pointer true) (plain pointer) i a (omega arith) l at (fault_here m (write_access pointer true) a refl h (λ q. n (q ∙ e)))),
)

module _ (m : Memory) (h : StackState) (l : LiveBlocks) (sync : m.state.mode ≡ Sync) (s : SoundBlocks m h l) where
  in_place : (p : Place) (a : ℕ) → IsPlace h p → p.user ≤ a + 16 → a < end_of p + 16 → IsHeapOr m a
  in_place p a i x y =
      let r = room h p s.stacked i in
      let b = r.block in
      let above = b.above in
      let within = b.within in
      let few = b.few in
      let high = b.high in
      let ra = r.above in
      let rw = r.within in
      s.served.others a (omega arith) (omega arith)

  differ : (u v : ℕ) (x y : BlockChunk) → chunk_at l u ≡ Some x → chunk_at l v ≡ Some y → x.place.class ≡ y.place.class → x.place.block + size_of x.place.class ≡ y.place.block → x.tag ≢ y.tag
  differ u v x y e f c b =
      let i = s.placed.place u x e in
      let k : IsHalfTag x.place.class (x.place.block + size_of x.place.class) y.tag = subst (λ t. IsHalfTag x.place.class t y.tag) (sym b) (subst (λ t. IsHalfTag t y.place.block y.tag) (sym c) (live_half m h l s v y f)) in
      neighbours-differ x.place.class x.place.block x.tag y.tag i.carved.class (live_half m h l s u x e) k

  pub are-kept : AreKept m h l
  are-kept = record {
    freed = λ f a st x y. refused m f.tag a sync (in_place f.place a st.place (omega arith) (omega arith)) (λ q. st.other (sym (st.inside a x y) ∙ q));
    neighbours = λ u v a x y e f beside.
        let c = beside.0 in
        let b = beside.1 in
        let d : x.tag ≢ y.tag = elim b [ inl k ↦ differ u v x y e f c k | inr k ↦ λ q. differ v u y x f e (sym c) k (sym q) ] in
        (d, λ k r. refused m x.tag a sync (in_place y.place a (s.placed.place v y f) (omega arith) (omega arith)) (λ q. d (sym q ∙ (s.tagged.chunks v y f).inside a k r)));
    apart = λ u v x y e f n.
        let i = s.placed.place u x e in
        let j = s.placed.place v y f in
        let ia = i.above in
        let iw = i.within in
        let ja = j.above in
        let jw = j.within in
        elim (apart h x.place.class y.place.class x.place.block y.place.block s.stacked i.carved j.carved (λ q. n (s.placed.apart u v x y e f q))) [ inl k ↦ inl (omega arith) | inr k ↦ inr (omega arith) ];
    before = λ u a x e k r. refused m x.tag a sync (in_place x.place a (s.placed.place u x e) k (omega arith)) (λ q. let g = s.tagged.chunks u x e in g.some (sym q ∙ g.before a k r));
    after = λ u a x e k r. refused m x.tag a sync (in_place x.place a (s.placed.place u x e) (omega arith) r) (λ q. let g = s.tagged.chunks u x e in g.some (sym q ∙ g.after a k r));
  }
