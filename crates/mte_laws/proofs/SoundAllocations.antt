-- An allocation keeps the live chunks Sound.
use Rattle.std.proofs.Common.{◌≡◌, ◌≢◌, ℕ, zero, suc, ◌+◌, ◌-◌, ◌*◌, ◌/◌, ◌%◌, ◌<◌, ◌≤◌, ◌&&◌, Bool, true, false, cond, nat_le, Option, Some, None, List, [], ◌∷◌, drop, refl, sym, ap, subst, ◌∙◌, inl, inr, arith}
use Rattle.std.proofs.lemmas.Bool.Decides.{nat_tests}
use Rattle.std.proofs.Math.Nat.{mul-mod_right}
use Rattle.std.proofs.lemmas.Nat.{div-add-mod'}
use Rattle.std.specs.List.{find, range_with_len}
use Rattle.mte_tags.specs.Memory.{Memory, tag_at, pages_left}
use Rattle.mte_tags.specs.RandomTags.{after_draw}
use Rattle.scudo_header.specs.Classes.{size_of, class_for}
use Rattle.scudo_header.specs.declared.headers.Origin.{Origin}
use Rattle.scudo_primary.specs.Pools.{is_member}
use Rattle.scudo_primary.specs.Blocks.{IsClass}
use Rattle.scudo_primary.proofs.ListLemmas.{member-first}
use Rattle.scudo_heap.specs.Stacks.{StackState, stack_of, with_stack, after_pop}
use Rattle.mte_laws.specs.LiveChunks.{IsCarved, IsPlace, BlockChunk, LiveBlocks, chunk_at, with_chunk, new_chunk}
use Rattle.scudo_heap.specs.declared.chunk.Place.{Place}
use Rattle.scudo_heap.specs.Placing.{World, more_pages, new_header, after_place, after_grow}
use Rattle.scudo_heap.specs.Chunks.{excluded_tags, with_header}
use Rattle.mte_laws.proofs.BlockCalls.{fenced}
use Rattle.mte_laws.proofs.Views.{SoundBlocks, TaggedBlocks, tagged-of}
use Rattle.mte_laws.proofs.Serving.{stacked-of, blocks-with}
use Rattle.scudo_heap.specs.Sound.{IsSoundWorld}
use Rattle.scudo_heap.proofs.BesideLemmas.{empty-of}
use Rattle.scudo_heap.proofs.ServedLemmas.{MayGrow, next-free, regions-of}
use Rattle.scudo_heap.proofs.SoundLemmas.{sound-after-grow}
use Rattle.scudo_heap.specs.Allocation.{AllocationResult, no_chunk, nonzero_size, need_of, place_in, is_empty, with_free_block, after_take, after_class_allocation}
use Rattle.scudo_heap.specs.Inner.{IsAlign}
use Rattle.scudo_heap.specs.declared.chunk.Chunk.{Chunk}
use Rattle.scudo_heap.specs.declared.chunk.Chunk.TheVariants.{Small, Large}
use Rattle.mte_laws.proofs.Draws.{IsFresh, after-draw-fresh}
use Rattle.mte_laws.proofs.Blocks.{block-in, apart}
use Rattle.mte_laws.proofs.Freed.{Freed, IsStale}
use Rattle.mte_laws.proofs.Stales.{stale-after-place}
use Rattle.mte_laws.proofs.BlockSounds.{present, not-top, placed_call, placed_sound}
use Rattle.mte_laws.proofs.Grows.{IsGrowth, grown_sound, after-grow-tags, after-grow-stale}

abbrev pub IsSoundIn : World → LiveBlocks → Type 0
IsSoundIn w l = SoundBlocks w.memory w.heap.stacks l

pub branch : {A : Type 0} (P : A → Type 0) (b : Bool) (x y : A) → (b ≡ true → P x) → (b ≡ false → P y) → P (cond b x y)
branch P true x y f g = f refl
branch P false x y f g = g refl

pub both_true : (a b : Bool) → (a && b) ≡ true → (a ≡ true) × (b ≡ true)
both_true true b e = (refl, e)
both_true false b e = cc

-- a world after a call: its live chunks are TaggedBlocks, and what was freed stays as it was while its block is free
pub record IsKept (w v : World) (l : LiveBlocks) : Type 0 where
  pub sound : TaggedBlocks v.memory v.heap.stacks l
  pub stale : (f : Freed) → IsStale w.memory w.heap.stacks f → is_member (stack_of v.heap.stacks f.place.class) f.place.block ≡ true → IsStale v.memory v.heap.stacks f

pub record IsReady (w v : World) (l : LiveBlocks) : Type 0 where
  pub sound : IsSoundIn v l
  pub stale : (f : Freed) → IsStale w.memory w.heap.stacks f → IsStale v.memory v.heap.stacks f
  pub tags : (a : ℕ) → tag_at v.memory a ≡ tag_at w.memory a

pub ready_sound : (w : World) (l : LiveBlocks) (c : ℕ) → IsClass c → IsSoundWorld w → IsSoundIn w l → IsReady w (with_free_block w c) l
unfolding with_free_block after_grow
ready_sound w l c hc v s =
    branch (λ r. IsReady w r l) (is_empty (stack_of w.heap.stacks c) && nat_le (more_pages c) (pages_left w.memory)) _ w
    (λ e.
    let b = both_true (is_empty (stack_of w.heap.stacks c)) (nat_le (more_pages c) (pages_left w.memory)) e in
    let empty = empty-of (stack_of w.heap.stacks c) b.0 in
    let enough : more_pages c ≤ pages_left w.memory = (let f = b.1 in grind (arith, nat_tests)) in
    let grown = sound-after-grow w c hc empty enough v in
    let may : MayGrow w.memory w.heap.stacks c (more_pages c) = record { class = hc; enough = enough; most = v.room c hc.low hc.high } in
    let g : IsGrowth w.memory w.heap.stacks c (more_pages c) = record { class = hc; empty = empty; left = enough; free = next-free w.memory w.heap.stacks c (more_pages c) (regions-of w.memory w.heap v.owned) may; stacked = stacked-of (after_grow w c) grown } in
    record {
      sound = blocks-with (after_grow w c) l grown (grown_sound w.memory w.heap.stacks l c (more_pages c) s g);
      stale = after-grow-stale w.memory w.heap.stacks l c (more_pages c) s g;
      tags = after-grow-tags w.memory w.heap.stacks l c (more_pages c) s g;
    })
    (λ e. record { sound = s; stale = λ f st. st; tags = λ a. refl })

-- ---- the place in a block

rounded : (x a : ℕ) → 0 < a → x % 16 ≡ 0 → a % 16 ≡ 0 → (((x + (a - 1)) / a * a) % 16 ≡ 0) × (x ≤ (x + (a - 1)) / a * a) × ((x + (a - 1)) / a * a + 16 ≤ x + a)
rounded x a p e f =
    let y = x + (a - 1) in
    let d = div-add-mod' y a in
    let q : a ≡ 16 * (a / 16) = omega arith in
    let r : y / a * a ≡ 16 * (y / a * (a / 16)) = ap (λ t. y / a * t) q ∙ grind arith in
    let m : (y / a * a) % 16 ≡ 0 = ap (λ t. t % 16) r ∙ mul-mod_right 16 (y / a * (a / 16)) in
    let u : y % a < a = omega arith in
    (m, omega arith, omega arith)

pub place-in : (h : StackState) (l : LiveBlocks) (m : Memory) (c b a size : ℕ) → SoundBlocks m h l → IsCarved h c b → IsAlign a → 0 < size → need_of a size ≤ size_of c → IsPlace h (place_in c b a size)
place-in h l m c b a size s k al p fits =
    let i = block-in h c b s.stacked k in
    let e = i.aligned in
    let least = al.least in
    let r = rounded (b + 16) a (omega arith) (omega arith) al.multiple in
    let r0 = r.0 in
    let r1 = r.1 in
    let r2 = r.2 in
    record { carved = k; aligned = r0; above = omega arith; within = omega arith; some = p }

same_tag : (w : World) (origin : Origin) (p : Place) → (after_place w origin p).rgsr.tag ≡ (after_draw w.rgsr (excluded_tags w.memory p)).tag
unfolding after_place after_draw
same_tag w origin p = refl

pub fresh_in : (w : World) (l : LiveBlocks) (p : Place) → IsSoundIn w l → IsPlace w.heap.stacks p → IsFresh w.memory p (after_draw w.rgsr (excluded_tags w.memory p)).tag
fresh_in w l p s i = after-draw-fresh w.memory p w.rgsr (present w.memory w.heap.stacks l s p i)

after-place-sound : (w : World) (l : LiveBlocks) (origin : Origin) (p : Place) (more : List ℕ) → IsSoundIn w l → stack_of w.heap.stacks p.class ≡ p.block ∷ more → IsPlace w.heap.stacks p
    → TaggedBlocks (after_place w origin p).memory (after_place w origin p).heap.stacks (with_chunk l (new_chunk origin p (after_place w origin p).rgsr.tag))
unfolding after_place after_pop
after-place-sound w l origin p more s top i =
    let t = (after_draw w.rgsr (excluded_tags w.memory p)).tag in
    let e : drop 1 (stack_of w.heap.stacks p.class) ≡ more = ap (drop 1) top in
    let m' = with_header (fenced w.memory p t) w.heap.cookie p.user (new_header origin p) in
    subst (λ k. TaggedBlocks m' (after_pop w.heap.stacks p.class) (with_chunk l (new_chunk origin p k))) (sym (same_tag w origin p))
    (subst (λ xs. TaggedBlocks m' (with_stack w.heap.stacks p.class xs) (with_chunk l (new_chunk origin p t))) (sym e) (placed_sound w.memory w.heap.stacks l s w.heap.cookie p origin more t (fresh_in w l p s i) top i))

pub after-place-kept : (w : World) (l : LiveBlocks) (origin : Origin) (p : Place) (more : List ℕ) → IsSoundIn w l → stack_of w.heap.stacks p.class ≡ p.block ∷ more → IsPlace w.heap.stacks p
    → IsKept w (after_place w origin p) (with_chunk l (new_chunk origin p (after_place w origin p).rgsr.tag))
unfolding after_place after_pop
after-place-kept w l origin p more s top i =
    let t = (after_draw w.rgsr (excluded_tags w.memory p)).tag in
    let e : more ≡ drop 1 (stack_of w.heap.stacks p.class) = sym (ap (drop 1) top) in
    let m' = with_header (fenced w.memory p t) w.heap.cookie p.user (new_header origin p) in
    record {
      sound = after-place-sound w l origin p more s top i;
      stale = λ f st member. subst (λ xs. is_member (stack_of (with_stack w.heap.stacks p.class xs) f.place.class) f.place.block ≡ true → IsStale m' (with_stack w.heap.stacks p.class xs) f) e
          (λ on. stale-after-place w.memory m' w.heap.stacks p t more f s.stacked i (placed_call w.memory w.heap.stacks l s w.heap.cookie p origin t (fresh_in w l p s i) i) top on st) member;
    }

-- the live chunks of the size classes after an allocation
abbrev pub blocks_listed : Origin → LiveBlocks → Option Chunk → LiveBlocks
blocks_listed o l None = l
blocks_listed o l (Some (Small p tag)) = with_chunk l (new_chunk o p tag)
blocks_listed o l (Some (Large m size)) = l

-- what an allocation leaves: its chunk has a user address of its own
pub record IsMadeSound (o : Origin) (w : World) (l : LiveBlocks) (r : AllocationResult) : Type 0 where
  pub kept : IsKept w r.world (blocks_listed o l r.chunk)
  pub apart : (p : Place) (t : ℕ) → r.chunk ≡ Some (Small p t) → (u : ℕ) (x : BlockChunk) → chunk_at l u ≡ Some x → p.user ≢ u
  pub fresh : (p : Place) (t : ℕ) → r.chunk ≡ Some (Small p t) → (t ≢ 0) × (t ≢ tag_at w.memory p.user)

pub nothing_sound : (o : Origin) (w : World) (l : LiveBlocks) → IsSoundIn w l → IsMadeSound o w l (no_chunk w)
nothing_sound o w l s = record { kept = record { sound = tagged-of w.memory w.heap.stacks l s; stale = λ f st on. st }; apart = λ p t e. cc; fresh = λ p t e. cc }

-- chunks in two blocks have two user addresses
users-differ : (w : World) (l : LiveBlocks) (p : Place) (u : ℕ) (x : BlockChunk) → IsSoundIn w l → IsPlace w.heap.stacks p → chunk_at l u ≡ Some x → x.place.block ≢ p.block → p.user ≢ u
users-differ w l p u x s i e n = λ q.
    let j = s.placed.place u x e in
    let here = s.placed.user u x e in
    let ia = i.above in
    let iw = i.within in
    let is = i.some in
    let ja = j.above in
    let jw = j.within in
    let js = j.some in
    elim (apart w.heap.stacks x.place.class p.class x.place.block p.block s.stacked j.carved i.carved n) [ inl k ↦ omega arith | inr k ↦ omega arith ]

taken_sound : (before w : World) (l : LiveBlocks) (origin : Origin) (a size c : ℕ) (xs : List ℕ) → IsSoundIn before l → IsReady before w l → IsClass c → IsAlign a → 0 < size → need_of a size ≤ size_of c
    → stack_of w.heap.stacks c ≡ xs → IsMadeSound origin before l (after_take before w origin a size c xs)
taken_sound before w l origin a size c [] s0 r hc al p fits e = nothing_sound origin before l s0
taken_sound before w l origin a size c (b ∷ more) s0 r hc al p fits e =
    let s = r.sound in
    let k : IsCarved w.heap.stacks c b = record { class = hc; block = s.stacked.blocks c b hc (ap (λ t. is_member t b) e ∙ member-first b more) } in
    let i = place-in w.heap.stacks l w.memory c b a size s k al p fits in
    let place = place_in c b a size in
    let tag = (after_place w origin place).rgsr.tag in
    let kept = after-place-kept w l origin place more s e i in
    record {
      kept = record { sound = kept.sound; stale = λ f st on. kept.stale f (r.stale f st) on };
      apart = λ q t f u x g. subst (λ (d : Place). d.user ≢ u) (let h : place ≡ q = cc in h)
          (users-differ w l place u x s i g (not-top w.memory w.heap.stacks l s c b more e k u x g));
      fresh = λ q t f.
          let d = fresh_in w l place s i in
          let g = same_tag w origin place in
          subst (λ (v : Place). (t ≢ 0) × (t ≢ tag_at before.memory v.user)) (let h : place ≡ q = cc in h)
          (subst (λ v. (v ≢ 0) × (v ≢ tag_at before.memory place.user)) (let h : tag ≡ t = cc in h)
          ((λ z. d.some (sym g ∙ z)), (λ z. d.other (sym g ∙ z ∙ sym (r.tags place.user)))));
    }

-- ---- the class of a need

pub record IsClassFor (need c : ℕ) : Type 0 where
  pub class : IsClass c
  pub holds : need ≤ size_of c

found_class : (n from need c : ℕ) → 0 < from → from + n ≤ 45 → find (λ k. nat_le need (size_of k)) (range_with_len from n) ≡ Some c → IsClassFor need c
found_class zero from need c p l e = cc
found_class (suc n) from need c p l e =
    branch (λ o. o ≡ Some c → IsClassFor need c) (nat_le need (size_of from)) (Some from) (find (λ k. nat_le need (size_of k)) (range_with_len (from + 1) n))
    (λ t f. let q : from ≡ c = cc in subst (IsClassFor need) q (record { class = record { low = p; high = omega arith }; holds = grind (arith, nat_tests) }))
    (λ t f. found_class n (from + 1) need c (omega arith) (omega arith) f) e

pub class-for : (need c : ℕ) → class_for need ≡ Some c → IsClassFor need c
unfolding class_for
class-for need c e = found_class 44 1 need c (omega arith) (omega arith) e

pub after-class-allocation-sound : (w : World) (l : LiveBlocks) (origin : Origin) (a size c : ℕ) → IsSoundWorld w → IsSoundIn w l → IsAlign a → 0 < size → IsClassFor (need_of a size) c → IsMadeSound origin w l (after_class_allocation w origin a size c)
unfolding after_class_allocation
after-class-allocation-sound w l origin a size c v s al p k =
    taken_sound w (with_free_block w c) l origin a size c (stack_of (with_free_block w c).heap.stacks c) s (ready_sound w l c k.class v s) k.class al p k.holds refl

pub asked_some : (size : ℕ) → 0 < nonzero_size size
asked_some size = grind (arith, nat_tests)
