-- The life of a chunk in a tenant of a session.
use Rattle.std.proofs.Common.{◌≡◌, ℕ, refl, sym, ap, subst, ◌∙◌, inl, arith}
use Rattle.a64_bits.specs.Addresses.{plain}
use Rattle.scudo_header.specs.declared.headers.Origin.TheVariants as origin
use Rattle.scudo_heap.specs.declared.call.HeapCall.TheVariants.{Malloc, Free}
use Rattle.scudo_heap.specs.declared.chunk.Chunk.TheVariants.{Small}
use Rattle.scudo_heap.specs.Allocation.{after_malloc}
use Rattle.mte_tenant.specs.Machines.{Machine, after_attempt}
use Rattle.mte_laws.specs.LiveChunks.{BlockChunk, new_chunk}
use Rattle.mte_laws.specs.Laws.{IsOutOfReach}
use Rattle.mte_laws.specs.CarefulRuns.{State, Live, state_after_call, IsLiveBlock, call as call_step, next, stop}
use Rattle.mte_laws.specs.CarefulTenants.{state_of, before_service, live_after}
use Rattle.mte_laws.specs.SoundHeaps.{Sound}
use Rattle.mte_laws.specs.Discipline.{Deallocation, malloc}
use Rattle.mte_laws.proofs.BlockCalls.{block-open}
use Rattle.mte_laws.proofs.OtherTags.{other-tags}
use Rattle.mte_laws.proofs.Serving.{blocks-of}
use Rattle.mte_laws.proofs.Tenants.{step-quiet, after-attempt-kept, after-attempt-done}
use Rattle.mte_laws.proofs.Disciplines.{stays, guarded, freed-free, freed-blocks}
use Rattle.mte_laws.specs.Frees.{HasFreedHeader}
use Rattle.mte_laws.specs.NewChunks.{IsZero}
use Rattle.mte_laws.specs.Lifetimes.{NextMalloc, chunk_made, LifetimesAreGuarded, ChunksFreedAtOnce}
use Rattle.mte_laws.proofs.NewChunks.{new-live, new-zero}
use Rattle.mte_laws.proofs.Uses.{chunks-usable}
use Rattle.mte_laws.proofs.Distances.{odd-distances}
use Rattle.mte_laws.proofs.FreedHeaders.{double-frees}
use Rattle.mte_laws.specs.Turns.{LeavesHeader}
use Rattle.mte_laws.proofs.Turns.{turns-sound, turns-hold, turns-stay, freed-in-turns}

-- ---- a malloc

-- what it leaves of its chunk
record IsMadeAt (s : State) (x : BlockChunk) : Type 0 where
  sound : Sound s
  live : IsLiveBlock s x.place.user x
  zero : IsZero s.world.memory (Small x.place x.tag)

made-at : (n : ℕ) (m : Machine) (l : Live) (c : NextMalloc m l) → Sound (state_of m l) → IsMadeAt (state_of (after_attempt n m).machine (live_after m l)) (chunk_made c)
made-at n m l c k =
    let s = state_of (before_service m) l in
    let first = step-quiet m l c.careful.tags k in
    let done = after-attempt-done n m l (Malloc c.size) c.call in
    let x = chunk_made c in
    record {
      sound = (after-attempt-kept n m l k c.careful).sound;
      live = subst (λ (t : State). IsLiveBlock t x.place.user x) (sym done) (new-live.malloc s c.size (Small c.place c.tag) first.sound c.made);
      zero = subst (λ (t : State). IsZero t.world.memory (Small c.place c.tag)) (sym done) (new-zero.malloc s c.size (Small c.place c.tag) first.sound c.made);
    }

-- ---- the whole life

pub lifetimes : LifetimesAreGuarded
lifetimes = λ s life admitted sync h.
    let p = h.made.place in
    let x = chunk_made h.made in
    let sound0 = turns-stay s life h.maker h.live_then admitted sync h.before in
    let new = made-at h.left h.maker h.live_then h.made sound0 in
    let sound1 = turns-sound h.usage new.sound in
    let now = state_of h.user h.live_now in
    let live = turns-hold {P = λ s. IsLiveBlock s p.user x} h.usage new.live in
    let free = h.free in
    let d = h.freed in
    let first = step-quiet h.user h.live_now d.careful.tags sound1 in
    let after = (after-attempt-kept free.0 h.user h.live_now sound1 d.careful).sound in
    let sound2 = turns-sound free.1 after in
    let here : p.user ≡ d.freed.chunk.place.user = ap (λ (y : BlockChunk). y.place.user) (sym h.same) in
    record {
      live = new.live;
      zero = new.zero;
      used = chunks-usable.blocks now p.user x sound1 live.live;
      before = λ addr from to. guarded.before now p.user addr x sound1 live.live from to;
      after = λ addr from to. guarded.after now p.user addr x sound1 live.live from to;
      apart = λ u addr y e far from to. (odd-distances now p.user u x y sound1 live.live e far).1 addr from to;
      refused = subst (IsOutOfReach h.taker.memory) h.same (freed-in-turns.refused h.user h.taker h.live_now h.live_later d sound1 free);
      aborted = λ pointer q header. freed-in-turns.aborted h.user h.taker h.live_now h.live_later d pointer sound1 free (subst (HasFreedHeader (state_of h.taker h.live_later).world) (sym h.same) header) q;
      left = λ pointer q keeps. freed-in-turns.left h.user h.taker h.live_now h.live_later d pointer sound1 free (subst (λ u. LeavesHeader u free.1) here keeps) q;
      reused = freed-in-turns.reused h.user h.taker h.live_now h.live_later d sound1 free h.taken.careful
          (after_malloc (state_of (before_service h.taker) h.live_later).world h.taken.size) h.taken.place h.taken.tag (malloc h.taken.size refl) h.taken.made (h.again ∙ here);
      old = λ left addr n from to.
          let again = made-at left h.taker h.live_later h.taken sound2 in
          other-tags.blocks (state_of (after_attempt left h.taker).machine (live_after h.taker h.live_later)) h.taken.place.user h.made.tag addr (chunk_made h.taken) again.sound again.live.live (λ q. n (sym q)) from to;
    }

-- ---- a chunk that is freed at once

pub freed-at-once : ChunksFreedAtOnce
freed-at-once = λ s size p t k e.
    let s1 = state_after_call (Malloc size) s in
    let k1 : Sound s1 = stays s s1 (next (call_step (Malloc size) tt refl) tt stop) k in
    let x = new_chunk origin.Malloc p t in
    let l = new-live.malloc s size (Small p t) k e in
    let b = blocks-of s1 k1 in
    let i = k1.placed.place p.user x l.live in
    let around = block-open s1.world.memory s1.world.heap.stacks p b.stacked b.served i in
    let below = around.below in
    let within = i.within in
    let same : p.user ≡ plain p.user = omega arith in
    let live = subst (λ u. IsLiveBlock s1 u x) same l in
    let d : Deallocation s1 = record { pointer = p.user; call = Free p.user; chunk = x; live = live; may = inl refl; free = freed-free s1 p.user x k1 live } in
    (freed-blocks s1 (state_after_call (Free p.user) s1) d k1 stop, double-frees.direct s1 d p.user k1 refl)
