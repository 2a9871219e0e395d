-- The laws of careful runs.
use Rattle.std.proofs.Common.{◌≡◌, ◌≢◌, ℕ, ◌/◌, ◌%◌, ◌<◌, ◌≤◌, false, Option, Some, None, IsSome, refl, sym, ap, subst, ◌∙◌, inl, inr, arith}
use Rattle.std.specs.List.{list_any}
use Rattle.std.specs.Ordering.{nat_cmp}
use Rattle.std.specs.FinMap as finite
use Rattle.std.specs.FinMap.{get-empty}
use Rattle.a64_bits.specs.Addresses.{plain}
use Rattle.mte_tags.specs.Memory.{Memory, tag_cases, tag_at, attrs_at}
use Rattle.mte_tags.specs.Accesses.{byte_fault, fault_cases, addresses, read_access, write_access, read_fault, write_fault}
use Rattle.mte_tags.specs.declared.access.Access.{Access}
use Rattle.mte_tags.specs.declared.state.TagMode.TheVariants.{Sync}
use Rattle.mte_tags.proofs.PageLaws.{page_at-no_attrs}
use Rattle.scudo_primary.specs.Blocks.{IsClass}
use Rattle.scudo_heap.proofs.StackLemmas.{class_at-stacks_by}
use Rattle.scudo_heap.proofs.FirstLemmas.{sound-first}
use Rattle.scudo_primary.proofs.BlockLemmas.{block-whole, size-IsSize}
use Rattle.scudo_heap.specs.Chunks.{end_of}
use Rattle.scudo_heap.specs.declared.call.HeapCall.{HeapCall}
use Rattle.scudo_heap.specs.declared.chunk.Place.{Place}
use Rattle.scudo_heap.specs.declared.chunk.Chunk.{Chunk}
use Rattle.scudo_heap.specs.declared.chunk.Chunk.TheVariants.{Small}
use Rattle.scudo_heap.specs.Realloc.{move_to_cases, after_move}
use Rattle.scudo_heap.proofs.MapLemmas.{without}
use Rattle.scudo_secondary.specs.Mappings.{mapping_of}
use Rattle.mte_laws.proofs.Blocks.{block-in}
use Rattle.scudo_heap.specs.declared.chunk.Found.{Found}
use Rattle.scudo_heap.specs.Stacks.{ClassHeap, class_at, empty_class, empty_stacks, memory_for, pages_of}
use Rattle.scudo_heap.specs.Placing.{World}
use Rattle.scudo_heap.specs.Allocation.{AllocationResult, after_malloc}
use Rattle.scudo_heap.specs.Served.{heap_page, is_inside}
use Rattle.mte_laws.specs.LiveChunks.{BlockChunk, chunk_at, IsCarved}
use Rattle.mte_laws.specs.LivePages.{PageChunk, large_at}
use Rattle.mte_laws.proofs.Freed.{Freed, IsStale}
use Rattle.mte_laws.specs.Laws.{IsRefused}
use Rattle.mte_laws.specs.CarefulRuns.{State, state_after_call, IsLiveBlock, IsCareful, HasFree}
use Rattle.mte_laws.specs.SoundHeaps.{Sound}
use Rattle.mte_laws.specs.Discipline.{StartsSound, StaysSound, MayFree, Deallocation, KeepsFree, FreedBlocksAreRefused, IsUnmapped, FreedPagesAreUnmapped, IsFreshIn, NewTagsDiffer, NeighboursDiffer, ChunksAreApart, ChunksAreGuarded, IsNewIn, malloc, calloc, memalign, realloc as realloc_call, AreOtherTags, given_tag, ReusedTagsDiffer, FreedPagesAreRefused, FreedBlocksAreFree, ChunksAreTagged}
use Rattle.mte_laws.proofs.Serving.{blocks-of}
use Rattle.mte_laws.proofs.BlockCalls.{room}
use Rattle.mte_laws.proofs.Faults.{AreKept, are-kept, in-sync, touching}
use Rattle.mte_laws.proofs.Larges.{check-pointer-of, large-apart}
use Rattle.mte_laws.proofs.MadeCalls.{malloc-state-after-allocation, calloc-state-after-allocation, memalign-state-after-allocation}
use Rattle.mte_laws.proofs.Freeings.{IsStaleAfter, free-stale, realloc-stale}
use Rattle.mte_laws.proofs.PagesGone.{free-gone, realloc-gone}
use Rattle.mte_laws.proofs.Runs.{call-kept, run-sound, run-stale}

-- ---- live chunks

kept-in : (s : State) → Sound s → AreKept s.world.memory s.world.heap.stacks s.live.blocks
kept-in s k = are-kept s.world.memory s.world.heap.stacks s.live.blocks k.sync (blocks-of s k)

pub neighbours : NeighboursDiffer
neighbours = λ s u v x y k e f n.
    let h = λ (a : ℕ). (kept-in s k).neighbours u v a x y e f n in
    ((h 0).0, λ a l r. (h a).1 l r)

pub guarded : ChunksAreGuarded
guarded = record {
  before = λ s u a x k e l r. (kept-in s k).before u a x e l r;
  after = λ s u a x k e l r. (kept-in s k).after u a x e l r;
}

pub apart : ChunksAreApart
apart = record {
  blocks = λ s u v x y k e f n. (kept-in s k).apart u v x y e f n;
  pages = λ s u v x y k e f n. large-apart s.world.heap.maps.mappings s.live.pages u v x y k.heap.parts.mappings k.large e f n;
  both = λ s u v x y k e f.
      let b = blocks-of s k in
      let r = room s.world.heap.stacks x.place b.stacked (k.placed.place u x e) in
      let i = r.block in
      let within = i.within in
      let few = i.few in
      let high = i.high in
      let end = r.within in
      let m = check-pointer-of s.world.heap.maps.mappings v y.mapping k.heap.parts.mappings (k.large.place v y f) in
      let above = m.above in
      let start = k.large.above v y f in
      omega arith;
}

-- an access through the pointer to a freed chunk
pub stale-refused : (s : State) → Sound s → (f : Freed) → IsStale s.world.memory s.world.heap.stacks f → (addr : ℕ) → f.place.user ≤ addr → addr < end_of f.place → IsRefused s.world.memory f.tag addr
stale-refused s k f st addr low high = (kept-in s k).freed f addr st low high

-- ---- new chunks

fresh-in : (s : State) (r : AllocationResult) → Sound s → ((p : Place) (t : ℕ) → r.chunk ≡ Some (Small p t) → (t ≢ 0) × (t ≢ tag_at s.world.memory p.user)) → IsFreshIn s r
fresh-in s r k h = record {
  some = λ p t e. (h p t e).0;
  other = λ p t e. (h p t e).1;
}

-- a chunk that moves is a new one as of malloc
move-to-cases-chunk : (w : World) (f : Found) (size : ℕ) (v : World) (c : Option Chunk) → (move_to_cases w f size v c).chunk ≡ c
move-to-cases-chunk w f size v None = refl
move-to-cases-chunk w f size v (Some x) = refl

after-move-chunk : (w : World) (f : Found) (size : ℕ) → (after_move w f size).chunk ≡ (after_malloc w size).chunk
unfolding after_move
after-move-chunk w f size = move-to-cases-chunk w f size (after_malloc w size).world (after_malloc w size).chunk

pub fresh : NewTagsDiffer
fresh = record {
  malloc = λ s size k. fresh-in s _ k (malloc-state-after-allocation s size k).fresh;
  calloc = λ s count size k. fresh-in s _ k (calloc-state-after-allocation s count size k).fresh;
  memalign = λ s align size k. fresh-in s _ k (memalign-state-after-allocation s align size k).fresh;
  realloc = λ s f size k. fresh-in s _ k (λ p t e. (malloc-state-after-allocation s size k).fresh p t (sym (after-move-chunk s.world f size) ∙ e));
}

-- ---- freed chunks

-- a call that names a live chunk of a size class is careful
pub block-careful : (s : State) (pointer : ℕ) (c : HeapCall) (x : BlockChunk) → IsLiveBlock s (plain pointer) x → MayFree pointer c → IsCareful s c
block-careful s pointer c x l (inl e) = subst (IsCareful s) (sym e) (λ n f g. inl (x, l))
block-careful s pointer c x l (inr e) = subst (IsCareful s) (sym e.1) (λ n f g. inl (x, l))

-- a pointer to a live chunk is not null
pub not-zero : (s : State) (pointer : ℕ) (x : BlockChunk) → Sound s → IsLiveBlock s (plain pointer) x → pointer ≢ 0
not-zero s pointer x k l = λ e.
    let here : x.place.user ≡ plain pointer = k.placed.user (plain pointer) x l.live in
    let above = (k.placed.place (plain pointer) x l.live).above in
    omega arith

pub stale-by : (s : State) (pointer : ℕ) (c : HeapCall) (x : BlockChunk) → Sound s → pointer ≢ 0 → IsLiveBlock s (plain pointer) x → MayFree pointer c → HasFree x.place.class x.place.block (state_after_call c s) → IsStaleAfter (state_after_call c s).world x
stale-by s pointer c x k n l (inl e) on = subst (λ d. IsStaleAfter (state_after_call d s).world x) (sym e) (free-stale s pointer x k n l)
stale-by s pointer c x k n l (inr e) on =
    let on' = subst (λ d. HasFree x.place.class x.place.block (state_after_call d s)) e.1 on in
    subst (λ d. IsStaleAfter (state_after_call d s).world x) (sym e.1) (realloc-stale s pointer e.0 x k n l on')

-- ---- a deallocation

abbrev pub freed-of : (a : State) → Deallocation a → Freed
freed-of a d = record { place = d.chunk.place; tag = d.chunk.tag; given = (state_after_call d.call a).world.rgsr.tag }

-- the chunk that it freed is stale as long as its block is free
pub record IsStaleIn (s : State) (f : Freed) : Type 0 where
  pub sound : Sound s
  pub stale : IsStale s.world.memory s.world.heap.stacks f

pub deallocated : (a : State) (d : Deallocation a) → Sound a → IsStaleIn (state_after_call d.call a) (freed-of a d)
deallocated a d k = record {
  sound = (call-kept a d.call k (block-careful a d.pointer d.call d.chunk d.live d.may)).sound;
  stale = stale-by a d.pointer d.call d.chunk k (not-zero a d.pointer d.chunk k d.live) d.live d.may d.free;
}

stays-stale : (a b : State) (d : Deallocation a) → Sound a → KeepsFree d b → IsStaleIn b (freed-of a d)
stays-stale a b d k run =
    let first = deallocated a d k in
    record { sound = run-sound run first.sound; stale = run-stale (freed-of a d) run first.sound first.stale }

pub out-of-reach : (s : State) (f : Freed) → IsStaleIn s f → (addr : ℕ) → f.place.user ≤ addr → addr < end_of f.place → IsRefused s.world.memory f.tag addr
out-of-reach s f st addr low high = stale-refused s st.sound f st.stale addr low high

pub freed-blocks : FreedBlocksAreRefused
freed-blocks = λ a b d k run. out-of-reach b (freed-of a d) (stays-stale a b d k run)

-- an access to a page that is not mapped faults
pub no_page : (m : Memory) (x : Access) (a : ℕ) → attrs_at m (a / 4096) ≡ None → IsSome (byte_fault m x a)
unfolding byte_fault
no_page m x a e = subst (λ o. IsSome (fault_cases x o a)) (sym (page_at-no_attrs m (a / 4096) e)) refl

pub unmapped-refused : (m : Memory) (a : ℕ) → m.state.mode ≡ Sync → attrs_at m (a / 4096) ≡ None → IsUnmapped m a
unfolding read_fault write_fault
unmapped-refused m a sync e = λ pointer n i check l at. (
  in-sync m (read_access pointer check) (addresses (plain pointer) n) sync (touching n m (read_access pointer check) (plain pointer) i a (omega arith) l at (no_page m (read_access pointer check) a e)),
  in-sync m (write_access pointer check) (addresses (plain pointer) n) sync (touching n m (write_access pointer check) (plain pointer) i a (omega arith) l at (no_page m (write_access pointer check) a e)),
)

pub freed-pages : FreedPagesAreUnmapped
freed-pages = record {
  freed = λ s pointer a x k l low high.
      let start = k.large.above (plain pointer) x l.live in
      free-gone s pointer x a k (λ z. omega arith) l low high;
  gone = λ s pointer a c x k l may none low high.
      let start = k.large.above (plain pointer) x l.live in
      let n : pointer ≢ 0 = λ z. omega arith in
      elim may [
        | inl e ↦ subst (λ d. list_any (is_inside a) (state_after_call d s).world.heap.maps.mappings ≡ false) (sym e) (free-gone s pointer x a k n l low high)
        | inr e ↦
            let none' = subst (λ d. large_at (state_after_call d s).live.pages (plain pointer) ≡ None) e.1 none in
            subst (λ d. list_any (is_inside a) (state_after_call d s).world.heap.maps.mappings ≡ false) (sym e.1) (realloc-gone s pointer x a k n l low high e.0 none')
      ];
  refused = unmapped-refused;
}

-- ---- a new heap

class-new : (left c : ℕ) → IsClass c → class_at (empty_stacks left) c ≡ empty_class
unfolding empty_stacks
class-new left c k = class_at-stacks_by left (memory_for left) (λ d. empty_class) c k

chunk-new : (u : ℕ) (x : BlockChunk) → chunk_at finite.empty u ≡ Some x → ⊥
unfolding chunk_at
chunk-new u x e = let f : None ≡ Some x = sym (get-empty nat_cmp u) ∙ e in cc

large-new : (u : ℕ) (x : PageChunk) → large_at finite.empty u ≡ Some x → ⊥
unfolding large_at
large-new u x e = let f : None ≡ Some x = sym (get-empty nat_cmp u) ∙ e in cc

pages-new : (left c : ℕ) → IsClass c → pages_of (empty_stacks left) c ≡ 0
pages-new left c k = ap (λ (t : ClassHeap). t.pages) (class-new left c k)

no-block : (left c b : ℕ) → IsCarved (empty_stacks left) c b → ⊥
no-block left c b k =
    let e = pages-new left c k.class in
    let w = block-whole c (pages_of (empty_stacks left) c) b k.class k.block in
    let s = size-IsSize c k.class in
    let least = s.least in
    omega arith

no_tag : (m : Memory) (a : ℕ) → attrs_at m (a / 4096) ≡ None → tag_at m a ≡ 0
unfolding tag_at
no_tag m a e = ap (λ o. tag_cases o (a % 4096 / 16)) (page_at-no_attrs m (a / 4096) e)

pub starts : StartsSound
starts = λ m cookie pages r n.
    let most = n.most in
    let limit = n.limit in
    record {
      whole = n.whole;
      limit = omega arith;
      sync = n.sync;
      heap = sound-first m cookie pages r n.limit n.most n.untouched;
      placed = record {
        place = λ u x e. absurd (chunk-new u x e);
        user = λ u x e. absurd (chunk-new u x e);
        header = λ u x e. absurd (chunk-new u x e);
        apart = λ u v x y e f g. absurd (chunk-new u x e);
        unstacked = λ u x e. absurd (chunk-new u x e);
      };
      tagged = record {
        chunks = λ u x e. absurd (chunk-new u x e);
        halves = λ c b a k x y. absurd (no-block pages c b k);
        outside = λ a x y o. no_tag m a (n.untouched (a / 4096) (omega arith) (omega arith));
      };
      large = record {
        place = λ u x e. absurd (large-new u x e);
        aligned = λ u x e. absurd (large-new u x e);
        above = λ u x e. absurd (large-new u x e);
        within = λ u x e. absurd (large-new u x e);
        header = λ u x e. absurd (large-new u x e);
      };
    }

pub stays : StaysSound
stays = λ a b r k. run-sound r k

-- ---- reuse

fresh-new : (s : State) (r : AllocationResult) → Sound s → IsNewIn s r → IsFreshIn s r
fresh-new s r k (malloc size e) = subst (IsFreshIn s) (sym e) (fresh.malloc s size k)
fresh-new s r k (calloc count size e) = subst (IsFreshIn s) (sym e) (fresh.calloc s count size k)
fresh-new s r k (memalign align size e) = subst (IsFreshIn s) (sym e) (fresh.memalign s align size k)
fresh-new s r k (realloc_call f size e) = subst (IsFreshIn s) (sym e) (fresh.realloc s f size k)

-- the tag of the granules of a stale chunk
pub stale-tag : (s : State) (f : Freed) → IsStale s.world.memory s.world.heap.stacks f → tag_at s.world.memory f.place.user ≡ f.given
stale-tag s f st =
    let some = st.place.some in
    st.inside f.place.user (omega arith) (omega arith)

pub others-in : (s : State) (f : Freed) (tag : ℕ) → IsStaleIn s f → tag ≡ f.given → AreOtherTags s f.place.user tag
others-in s f tag k is = λ r p t new e at.
    let there : tag_at s.world.memory p.user ≡ f.given = ap (tag_at s.world.memory) at ∙ stale-tag s f k.stale in
    λ q. (fresh-new s r k.sound new).other p t e (q ∙ is ∙ sym there)

pub reused-differ : ReusedTagsDiffer
reused-differ = λ a b d k run.
    others-in b (freed-of a d) (given_tag d) (stays-stale a b d k run) (stale-tag (state_after_call d.call a) (freed-of a d) (deallocated a d k).stale)

-- ---- more of live and freed chunks

pub freed-free : FreedBlocksAreFree
freed-free = λ s pointer x k l. (free-stale s pointer x k (not-zero s pointer x k l) l).stacked

pub chunks-tagged : ChunksAreTagged
chunks-tagged = record {
  blocks = λ s u a x k e lo hi. (k.tagged.chunks u x e).inside a lo hi;
  pages = λ s u a x k e lo hi.
      let there = k.large.place u x e in
      let f = check-pointer-of s.world.heap.maps.mappings u x.mapping k.heap.parts.mappings there in
      let above = f.above in
      let w = without s.world.heap.maps.mappings x.mapping k.heap.parts.mappings (sym there ∙ ap (mapping_of s.world.heap.maps.mappings) (sym f.user)) in
      let last = w.last in
      k.tagged.outside a (omega arith) (omega arith) (λ c b d v y.
      let i = block-in s.world.heap.stacks c b (blocks-of s k).stacked d in
      let within = i.within in
      let few = i.few in
      let high = i.high in
      omega arith);
}

pub freed-pages-refused : FreedPagesAreRefused
freed-pages-refused = λ s addr k lo hi e.
    let gone : attrs_at s.world.memory (addr / 4096) ≡ None = k.heap.owned.mappings addr lo hi ∙ ap heap_page e in
    (unmapped-refused s.world.memory addr k.sync gone, λ x. no_page s.world.memory x addr gone)
