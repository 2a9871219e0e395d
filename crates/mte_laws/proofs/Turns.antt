-- A tenant's chunks through careful instructions, over the ends of its slices.
use Rattle.std.proofs.Common.{◌≡◌, ℕ, zero, suc, ◌&&◌, Bool, true, false, cond, Option, Some, None, List, [], ◌∷◌, refl, sym, ap, subst, ◌∙◌}
use Rattle.mte_tenant.specs.Machines.{Machine, runs, stop_by_tag, after_attempt, after_attempts, after_slice_end, after_slice}
use Rattle.mte_sched.specs.Lives.{TenantEvent, OwnSlice, OwnStop}
use Rattle.mte_sched.specs.Contents as contents
use Rattle.mte_sched.specs.Contents.{after_own_events}
use Rattle.mte_laws.specs.CarefulRuns.{State, Live, no_chunks, HasFree, HasFreeBlock, IsCareful as IsCarefulCall, state_after_call}
use Rattle.mte_laws.specs.CarefulTenants.{state_of, before_service, next_call, live_after, live_through, IsCareful, IsCarefulNext}
use Rattle.mte_laws.specs.CarefulSessions.{live_of, AreCareful, first_machine}
use Rattle.mte_laws.specs.SoundHeaps.{Sound}
use Rattle.mte_laws.specs.Discipline.{Deallocation}
use Rattle.mte_laws.specs.TenantLaws.{NextDeallocation}
use Rattle.mte_laws.proofs.Freed.{Freed, IsStale}
use Rattle.mte_laws.proofs.Tenants.{step-quiet, service-same, attempt-heap, after-attempt-kept, after-attempt-done}
use Rattle.mte_laws.proofs.Starts.{tenants-start}
use Rattle.mte_laws.proofs.Disciplines.{stale-refused, others-in, stale-tag}
use Rattle.mte_laws.proofs.Sessions.{accepted, machine-of, gone-stays, live-is}
use Rattle.mte_laws.specs.Turns.{Turns, stop, next, pause, AnyTurns, TenantsTakeTurns, TurnsStaySound, KeepsFreeThrough, KeepsHeader, LeavesHeader, FreedChunksInTurns}
use Rattle.mte_laws.proofs.Frees.{IsStaleChunk, freed-stale-chunk, freed-aborts, header-after}
use Rattle.mte_laws.proofs.FreedHeaders.{header-kept, quiet-header}
use Rattle.mte_laws.specs.Frees.{HasFreedHeader, IsAborted}
use Rattle.mte_laws.specs.LiveChunks.{BlockChunk, IsPlace}
use Rattle.a64_bits.specs.Addresses.{plain}
use Rattle.scudo_heap.specs.declared.call.HeapCall.{HeapCall}
use Rattle.scudo_heap.specs.declared.chunk.Place.{Place}

-- ---- the end of a slice changes no state

abbrev paused : Machine → Machine
paused m = record m { parts = record m.parts { left = 0 } }

ended-by : (P : State → Type 0) (b : Bool) (m : Machine) (l : Live) → P (state_of m l) → P (state_of (cond b (stop_by_tag m) m) l)
ended-by P true m l p = p
ended-by P false m l p = p

pub slice-end-keeps : (P : State → Type 0) (m : Machine) (l : Live) → P (state_of m l) → P (state_of (after_slice_end m) l)
unfolding after_slice_end
slice-end-keeps P m l p = ended-by P (runs (paused m) && (paused m).memory.state.pending) (paused m) l p

-- ---- turns

pub turns-sound : {P : State → Type 0} {m k : Machine} {l j : Live} → Turns P m l k j → Sound (state_of m l) → Sound (state_of k j)
turns-sound stop s = s
turns-sound {P} (next {m = m} {k = k} {l = l} {j = j} n c p r) s = turns-sound r (after-attempt-kept n m l s c).sound
turns-sound {P} (pause {m = m} {k = k} {l = l} {j = j} r) s = turns-sound r (slice-end-keeps Sound m l s)

IsStaleAt : Freed → State → Type 0
IsStaleAt f s = IsStale s.world.memory s.world.heap.stacks f

pub turns-stale : (f : Freed) {m k : Machine} {l j : Live} → Turns (HasFree f.place.class f.place.block) m l k j → Sound (state_of m l) → IsStale m.memory m.parts.heap.stacks f → IsStale k.memory k.parts.heap.stacks f
unfolding IsStaleAt
turns-stale f stop s st = st
turns-stale f (next {m = m} {k = k} {l = l} {j = j} n c p r) s st = let h = after-attempt-kept n m l s c in turns-stale f r h.sound (h.stale f st p)
turns-stale f (pause {m = m} {k = k} {l = l} {j = j} r) s st = turns-stale f r (slice-end-keeps Sound m l s) (slice-end-keeps (IsStaleAt f) m l st)

-- what holds of the last state of turns, where it held of the first
pub turns-hold : {P : State → Type 0} {m k : Machine} {l j : Live} → Turns P m l k j → P (state_of m l) → P (state_of k j)
turns-hold stop h = h
turns-hold {P} (next {m = m} {k = k} {l = l} {j = j} n c p r) h = turns-hold r p
turns-hold {P} (pause {m = m} {k = k} {l = l} {j = j} r) h = turns-hold r (slice-end-keeps P m l h)

pub turns-then : {P : State → Type 0} {m k i : Machine} {l j h : Live} → Turns P m l k j → Turns P k j i h → Turns P m l i h
turns-then stop r = r
turns-then (next n c p q) r = next n c p (turns-then q r)
turns-then (pause q) r = pause (turns-then q r)

pub turns-any : {P : State → Type 0} {m k : Machine} {l j : Live} → Turns P m l k j → AnyTurns m l k j
turns-any stop = stop
turns-any (next n c p q) = next n c tt (turns-any q)
turns-any (pause q) = pause (turns-any q)

-- ---- a slice is turns

by-test : (b : Bool) (m k i : Machine) (l j h : Live) → (b ≡ true → AnyTurns m l k j) → (b ≡ false → AnyTurns m l i h) → AnyTurns m l (cond b k i) (cond b j h)
by-test true m k i l j h f g = f refl
by-test false m k i l j h f g = g refl

attempts-turn : (n : ℕ) (m : Machine) (l : Live) → IsCareful n m l → AnyTurns m l (after_attempts n m) (live_through n m l)
unfolding after_attempts live_through IsCareful
attempts-turn zero m l c = stop
attempts-turn (suc n) m l c =
    let a = after_attempt n m in
    let j = live_after m l in
    by-test (runs m) m (cond a.goes_on (after_attempts n a.machine) a.machine) m l (cond a.goes_on (live_through n a.machine j) j) l
    (λ e. next n (c.0 e) tt (by-test a.goes_on a.machine (after_attempts n a.machine) a.machine j (live_through n a.machine j) j (λ f. attempts-turn n a.machine j (c.1 e f)) (λ f. stop)))
    (λ e. stop)

slice-turns : (n : ℕ) (m : Machine) (l : Live) → IsCareful n m l → AnyTurns m l (after_slice n m) (live_through n m l)
unfolding after_slice
slice-turns n m l c = turns-then (attempts-turn n m l c) (pause stop)

own-turns : (own : List TenantEvent) (m k : Machine) (l : Live) → AreCareful own m l → after_own_events (contents.Live m) own ≡ contents.Live k → AnyTurns m l k (live_of own m l)
unfolding after_own_events live_of AreCareful
own-turns [] m k l c e = subst (λ n. AnyTurns m l n l) (live-is m k e) stop
own-turns (OwnSlice n ∷ more) m k l c e = turns-then (slice-turns n m l c.0) (own-turns more (after_slice n m) k (live_through n m l) c.1 e)
own-turns (OwnStop ∷ more) m k l c e = absurd (gone-stays more _ k e)

pub tenants-turn : TenantsTakeTurns
tenants-turn = λ s life m h. own-turns life.own (first_machine life) m no_chunks h.careful (machine-of s life m h)

pub turns-stay : TurnsStaySound
turns-stay = λ s life m l admitted sync r.
    let a = accepted s.frames [] s.calls life.id life admitted in
    turns-sound r (tenants-start s.frames a.0 life.id life.start a.1 sync)

-- ---- a freed chunk

pub record IsFreedAt (a : State) (d : Deallocation a) (s : State) : Type 0 where
  pub sound : Sound s
  pub stale : IsStaleChunk d s

pub freed-at : {m k : Machine} {l j : Live} (d : NextDeallocation m l) → Sound (state_of m l) → KeepsFreeThrough d k j → IsFreedAt (state_of (before_service m) l) d.freed (state_of k j)
freed-at {m} {k} {l} {j} d sound r =
    let s = state_of (before_service m) l in
    let first = step-quiet m l d.careful.tags sound in
    let done = after-attempt-done r.0 m l d.freed.call d.call in
    let f : Freed = record { place = d.freed.chunk.place; tag = d.freed.chunk.tag; given = (state_after_call d.freed.call s).world.rgsr.tag } in
    let stale = subst (λ (t : State). IsStale t.world.memory t.world.heap.stacks f) (sym done) (freed-stale-chunk s d.freed first.sound) in
    let after = (after-attempt-kept r.0 m l sound d.careful).sound in
    record { sound = turns-sound r.1 after; stale = turns-stale f r.1 after stale }

-- ---- its header

HasHeaderAt : BlockChunk → State → Type 0
HasHeaderAt x s = HasFreedHeader s.world x

attempt-header : (n : ℕ) (m : Machine) (l : Live) (x : BlockChunk) (o : Option HeapCall) → next_call m ≡ o → Sound (state_of m l) → IsCarefulNext m l → IsPlace m.parts.heap.stacks x.place → HasFreeBlock x (state_of m l)
    → HasFreeBlock x (state_of (after_attempt n m).machine (live_after m l)) → KeepsHeader x.place.user n m → HasFreedHeader (state_of m l).world x → HasFreedHeader (state_of (after_attempt n m).machine (live_after m l)).world x
attempt-header n m l x None e k c i free on keeps header =
    quiet-header (state_of m l) (state_of (after_attempt n m).machine (live_after m l)) x k i (attempt-heap n m e) (keeps e) header
attempt-header n m l x (Some call) e k c i free on keeps header =
    let done = after-attempt-done n m l call e ∙ ap (state_after_call call) (service-same m l call e) in
    subst (λ (t : State). HasFreedHeader t.world x) (sym done)
    (header-kept (state_of m l) x call k i free (subst (λ (t : State). IsCarefulCall t call) (service-same m l call e) (c.call call e)) (subst (HasFreeBlock x) done on) header)

turns-header : (f : Freed) (x : BlockChunk) → f.place ≡ x.place → {m k : Machine} {l j : Live} (r : Turns (HasFreeBlock x) m l k j) → Sound (state_of m l) → IsStale m.memory m.parts.heap.stacks f → LeavesHeader x.place.user r → HasFreedHeader (state_of m l).world x → HasFreedHeader (state_of k j).world x
unfolding LeavesHeader IsStaleAt HasHeaderAt
turns-header f x same stop k st keeps header = header
turns-header f x same (next {m = m} {l = l} n c p r) k st keeps header =
    let h = after-attempt-kept n m l k c in
    let on : HasFree f.place.class f.place.block (state_of (after_attempt n m).machine (live_after m l)) = subst (λ (q : Place). HasFree q.class q.block (state_of (after_attempt n m).machine (live_after m l))) (sym same) p in
    let free : HasFreeBlock x (state_of m l) = subst (λ (q : Place). HasFree q.class q.block (state_of m l)) same st.stacked in
    turns-header f x same r h.sound (h.stale f st on) keeps.1 (attempt-header n m l x (next_call m) refl k c (subst (IsPlace m.parts.heap.stacks) same st.place) free p keeps.0 header)
turns-header f x same (pause {m = m} {l = l} r) k st keeps header =
    turns-header f x same r (slice-end-keeps Sound m l k) (slice-end-keeps (IsStaleAt f) m l st) keeps (slice-end-keeps (HasHeaderAt x) m l header)

header-at : {m k : Machine} {l j : Live} (d : NextDeallocation m l) → Sound (state_of m l) → (r : KeepsFreeThrough d k j) → LeavesHeader d.freed.chunk.place.user r.1 → HasFreedHeader (state_of k j).world d.freed.chunk
header-at {m} {k} {l} {j} d sound r keeps =
    let s = state_of (before_service m) l in
    let first = step-quiet m l d.careful.tags sound in
    let done = after-attempt-done r.0 m l d.freed.call d.call in
    let f : Freed = record { place = d.freed.chunk.place; tag = d.freed.chunk.tag; given = (state_after_call d.freed.call s).world.rgsr.tag } in
    let stale = subst (λ (t : State). IsStale t.world.memory t.world.heap.stacks f) (sym done) (freed-stale-chunk s d.freed first.sound) in
    let header = subst (λ (t : State). HasFreedHeader t.world d.freed.chunk) (sym done) (header-after s d.freed first.sound) in
    turns-header f d.freed.chunk refl r.1 (after-attempt-kept r.0 m l sound d.careful).sound stale keeps header

named-aborts : {m k : Machine} {l j : Live} (d : NextDeallocation m l) (pointer : ℕ) → Sound (state_of m l) → KeepsFreeThrough d k j → HasFreedHeader (state_of k j).world d.freed.chunk → plain pointer ≡ plain d.freed.pointer → IsAborted (state_of k j).world pointer
named-aborts {m} {k} {l} {j} d pointer sound r header same =
    let h = freed-at d sound r in
    let first = step-quiet m l d.careful.tags sound in
    freed-aborts (state_of (before_service m) l) d.freed (state_of k j) pointer first.sound h.sound h.stale.place header same

pub freed-in-turns : FreedChunksInTurns
freed-in-turns = record {
  refused = λ m k l j d sound r.
      let h = freed-at d sound r in
      λ addr low high. stale-refused (state_of k j) h.sound (record { place = d.freed.chunk.place; tag = d.freed.chunk.tag; given = (state_after_call d.freed.call (state_of (before_service m) l)).world.rgsr.tag }) h.stale addr low high;
  aborted = λ m k l j d pointer sound r header same. named-aborts d pointer sound r header same;
  left = λ m k l j d pointer sound r keeps same. named-aborts d pointer sound r (header-at d sound r keeps) same;
  reused = λ m k l j d sound r then.
      let s = state_of (before_service m) l in
      let f : Freed = record { place = d.freed.chunk.place; tag = d.freed.chunk.tag; given = (state_after_call d.freed.call s).world.rgsr.tag } in
      let h = freed-at d sound r in
      let first = step-quiet m l d.careful.tags sound in
      let quiet = step-quiet k j then.tags h.sound in
      others-in (state_of (before_service k) j) f _ (record { sound = quiet.sound; stale = quiet.stale f h.stale h.stale.stacked }) (stale-tag (state_after_call d.freed.call s) f (freed-stale-chunk s d.freed first.sound));
}
