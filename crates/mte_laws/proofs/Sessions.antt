-- A tenant's live chunks are Sound, and its freed ones stale, through its own events in a session.
use Rattle.std.proofs.Common.{◌≡◌, ◌≢◌, ℕ, zero, suc, ◌++◌, ◌==◌, ◌&&◌, Bool, true, false, cond, Option, Some, None, List, [], ◌∷◌, Result, Ok, Err, refl, sym, ap, subst, ◌∙◌, inl, inr, arith}
use Rattle.std.specs.Prelude.{filter, All, option_map}
use Rattle.std.proofs.lemmas.List.Elements.{All-nil, All-cons}
use Rattle.a64_bits.specs.Addresses.{plain}
use Rattle.scudo_heap.specs.declared.abort.HeapAbort.{HeapAbort}
use Rattle.scudo_heap.specs.declared.call.HeapCall.{HeapCall}
use Rattle.scudo_heap.specs.declared.call.HeapCall.TheVariants.{Malloc, Free, Calloc, Realloc, Memalign, UsableSize}
use Rattle.scudo_heap.specs.declared.chunk.Found.{Found}
use Rattle.mte_svc.specs.declared.record.Record.{Record}
use Rattle.mte_tenant.specs.declared.refusal.Refusal.{Refusal}
use Rattle.mte_tenant.specs.declared.refusal.Refusal.TheVariants as refusal
use Rattle.mte_tenant.specs.declared.admission.AdmitError.{AdmitError}
use Rattle.mte_tenant.specs.Machines.{Machine, runs, stop_by_tag, after_attempt, after_attempts, after_slice_end, after_slice}
use Rattle.mte_tenant.specs.Ledger.{Call, Admit, Slice, Stop, LedgerEntry, admission_refusal, call_refusal, ledger_cases}
use Rattle.mte_sched.specs.Lives.{TenantEvent, OwnSlice, OwnStop, Session, Life, decisions, own_events, lives_of, lives, life_among}
use Rattle.mte_sched.specs.Contents as contents
use Rattle.mte_sched.specs.Contents.{TenantState, Gone, after_own_events}
use Rattle.mte_sched.specs.Isolation.{tenant_among}
use Rattle.mte_sched.proofs.IsolationLemmas.{accepted_from, accepted_on, tenants_are_alone, among_tenants}
use Rattle.mte_laws.specs.LiveChunks.{BlockChunk, chunk_at}
use Rattle.mte_laws.proofs.Freed.{IsStale}
use Rattle.mte_laws.specs.Laws.{IsOutOfReach}
use Rattle.mte_laws.specs.CarefulRuns.{State, Live, no_chunks, found_at, state_after_call, IsPointerTo, IsLive, IsLiveBlock, HasFree}
use Rattle.mte_laws.specs.CarefulRuns as heap
use Rattle.mte_laws.specs.CarefulTenants.{state_of, before_service, next_call, live_after, IsCarefulNext, live_through, IsCareful}
use Rattle.mte_laws.specs.CarefulSessions.{named_chunk_cases, named_at, named_chunks, has_free_block, freed_after, freed_through, live_of, freed_of, AreCareful, machine_held, machine_cases, first_machine, IsCarefulIn, state_in, freed_in}
use Rattle.mte_laws.specs.SoundHeaps.{Sound}
use Rattle.mte_laws.specs.Discipline.{MayFree}
use Rattle.mte_laws.specs.TenantLaws.{TenantsStaySound, FreedBlocksOfTenantsAreRefused, ChunksOfTenantsAreGuarded, FreedPagesOfTenantsAreRefused}
use Rattle.mte_laws.proofs.Freeings.{IsStaleAfter}
use Rattle.mte_laws.proofs.Disciplines.{apart, guarded, stale-by, stale-refused, freed-pages-refused}
use Rattle.mte_laws.proofs.Starts.{tenants-start}
use Rattle.mte_laws.proofs.Tenants.{step-quiet, after-attempt-kept, after-attempt-done, after-slice-sound}

-- what holds of each chunk of a list
abbrev Each : (BlockChunk → Type 0) → List BlockChunk → Type 0
Each P [] = Unit {0}
Each P (x ∷ xs) = P x × Each P xs

each-append : (P : BlockChunk → Type 0) (xs ys : List BlockChunk) → Each P xs → Each P ys → Each P (xs ++ ys)
each-append P [] ys a b = b
each-append P (x ∷ xs) ys a b = (a.0, each-append P xs ys a.1 b)

each-weaker : (P Q : BlockChunk → Type 0) → ((x : BlockChunk) → P x → Q x) → (xs : List BlockChunk) → Each P xs → Each Q xs
each-weaker P Q f [] a = tt
each-weaker P Q f (x ∷ xs) a = (f x a.0, each-weaker P Q f xs a.1)

each-all : (P : BlockChunk → Type 0) (xs : List BlockChunk) → Each P xs → All P xs
each-all P [] a = All-nil P
each-all P (x ∷ xs) a = All-cons P x xs a.0 (each-all P xs a.1)

-- the block of a chunk is free, and its granules have the tag that its free gave
abbrev StaleIn : Machine → BlockChunk → Type 0
StaleIn k x = (given : ℕ) × IsStale k.memory k.parts.heap.stacks (record { place = x.place; tag = x.tag; given = given })

-- ---- the chunk that a call names

pointer-to : (s : State) (pointer : ℕ) (c : HeapCall) → MayFree pointer c → heap.IsCareful s c → IsPointerTo s pointer
pointer-to s pointer c (inl e) k = subst (heap.IsCareful s) e k
pointer-to s pointer c (inr e) k = subst (heap.IsCareful s) e.1 k

one-is : (x y : BlockChunk) → Some x ≡ Some y → x ≡ y
one-is x y e = cc

live-block : (s : State) (u : ℕ) (x : BlockChunk) → Sound s → chunk_at s.live.blocks u ≡ Some x → IsLive s u → IsLiveBlock s u x
live-block s u x k e (inl l) = subst (IsLiveBlock s u) (one-is l.0 x (sym l.1.live ∙ e)) l.1
live-block s u x k e (inr l) =
    let far = apart.both s u u x l.0 k e l.1.live in
    let user = k.placed.user u x e in
    absurd (omega arith)

-- a call after which its block is free has freed it
abbrev FreesIt : State → HeapCall → BlockChunk → Type 0
FreesIt s c x = HasFree x.place.class x.place.block (state_after_call c s) → IsStaleAfter (state_after_call c s).world x

named-in : (s : State) (pointer : ℕ) (c : HeapCall) → Sound s → heap.IsCareful s c → MayFree pointer c → (r : Result Found HeapAbort) → found_at s.world pointer ≡ r
    → (o : Option BlockChunk) → chunk_at s.live.blocks (plain pointer) ≡ o → Each (FreesIt s c) (named_chunk_cases r o)
named-in s pointer c k careful may (Err a) h o e = tt
named-in s pointer c k careful may (Ok f) h None e = tt
named-in s pointer c k careful may (Ok f) h (Some x) e =
    let place = k.placed.place (plain pointer) x e in
    let above = place.above in
    let user = k.placed.user (plain pointer) x e in
    let some : pointer ≢ 0 = λ z. absurd (omega arith) in
    let live = live-block s (plain pointer) x k e (pointer-to s pointer c may careful some f h) in
    (λ on. stale-by s pointer c x k some live may on, tt)

named : (s : State) (pointer : ℕ) (c : HeapCall) → Sound s → heap.IsCareful s c → MayFree pointer c → Each (FreesIt s c) (named_at s pointer)
named s pointer c k careful may = named-in s pointer c k careful may (found_at s.world pointer) refl (chunk_at s.live.blocks (plain pointer)) refl

-- ---- an attempted instruction

all-cond : (Q : BlockChunk → Type 0) (b : Bool) (x : BlockChunk) (xs : List BlockChunk) → (b ≡ true → Q x) → Each Q xs → Each Q (cond b (x ∷ xs) xs)
all-cond Q true x xs f a = (f refl, a)
all-cond Q false x xs f a = a

all-filter : (p : BlockChunk → Bool) (Q : BlockChunk → Type 0) (xs : List BlockChunk) → Each (λ x. p x ≡ true → Q x) xs → Each Q (filter p xs)
all-filter p Q [] a = tt
all-filter p Q (x ∷ xs) a = all-cond Q (p x) x (filter p xs) a.0 (all-filter p Q xs a.1)

-- where its block is free, it is stale
abbrev MayBeStale : Machine → BlockChunk → Type 0
MayBeStale k x = has_free_block k.parts.heap.stacks x ≡ true → StaleIn k x

call-stale : (n : ℕ) (m : Machine) (l : Live) (c : HeapCall) (pointer : ℕ) → Sound (state_of m l) → IsCarefulNext m l → next_call m ≡ Some c → MayFree pointer c
    → Each (MayBeStale (after_attempt n m).machine) (named_at (state_of (before_service m) l) pointer)
call-stale n m l c pointer k careful e may =
    let s = state_of (before_service m) l in
    let first = step-quiet m l careful.tags k in
    let is = after-attempt-done n m l c e in
    each-weaker (FreesIt s c) (MayBeStale (after_attempt n m).machine)
    (λ x f on.
    let given = (state_after_call c s).world.rgsr.tag in
    let st : IsStaleAfter (state_after_call c s).world x = f (subst (HasFree x.place.class x.place.block) is on) in
    (given, subst (λ (t : State). IsStale t.world.memory t.world.heap.stacks (record { place = x.place; tag = x.tag; given = given })) (sym is) st))
    (named_at s pointer) (named s pointer c first.sound (careful.call c e) may)

named-stale : (n : ℕ) (m : Machine) (l : Live) → Sound (state_of m l) → IsCarefulNext m l → (r : Option HeapCall) → next_call m ≡ r
    → Each (MayBeStale (after_attempt n m).machine) (named_chunks (state_of (before_service m) l) r)
named-stale n m l k c None e = tt
named-stale n m l k c (Some (Malloc size)) e = tt
named-stale n m l k c (Some (Calloc count size)) e = tt
named-stale n m l k c (Some (Memalign align size)) e = tt
named-stale n m l k c (Some (Realloc pointer size)) e = call-stale n m l (Realloc pointer size) pointer k c e (inr (size, refl))
named-stale n m l k c (Some (Free pointer)) e = call-stale n m l (Free pointer) pointer k c e (inl refl)
named-stale n m l k c (Some (UsableSize pointer)) e = tt

freed-step : (n : ℕ) (m : Machine) (l : Live) (xs : List BlockChunk) → Sound (state_of m l) → IsCarefulNext m l → Each (StaleIn m) xs → Each (StaleIn (after_attempt n m).machine) (freed_after n m l xs)
unfolding freed_after
freed-step n m l xs k c a =
    let after = after-attempt-kept n m l k c in
    let new = named_chunks (state_of (before_service m) l) (next_call m) in
    let old = each-weaker (StaleIn m) (MayBeStale (after_attempt n m).machine) (λ x st on. (st.0, after.stale (record { place = x.place; tag = x.tag; given = st.0 }) st.1 on)) xs a in
    all-filter (has_free_block (after_attempt n m).machine.parts.heap.stacks) (StaleIn (after_attempt n m).machine) (new ++ xs)
    (each-append (MayBeStale (after_attempt n m).machine) new xs (named-stale n m l k c (next_call m) refl) old)

-- ---- a slice

stale-by-test : (b : Bool) (m k : Machine) (xs ys : List BlockChunk) → (b ≡ true → Each (StaleIn m) xs) → (b ≡ false → Each (StaleIn k) ys) → Each (StaleIn (cond b m k)) (cond b xs ys)
stale-by-test true m k xs ys f g = f refl
stale-by-test false m k xs ys f g = g refl

after-attempts-stale : (n : ℕ) (m : Machine) (l : Live) (xs : List BlockChunk) → Sound (state_of m l) → IsCareful n m l → Each (StaleIn m) xs → Each (StaleIn (after_attempts n m)) (freed_through n m l xs)
unfolding after_attempts freed_through IsCareful
after-attempts-stale zero m l xs k c a = a
after-attempts-stale (suc n) m l xs k c a =
    let next = after_attempt n m in
    let j = live_after m l in
    let ys = freed_after n m l xs in
    stale-by-test (runs m) (cond next.goes_on (after_attempts n next.machine) next.machine) m (cond next.goes_on (freed_through n next.machine j ys) ys) xs
    (λ e.
    let sound = (after-attempt-kept n m l k (c.0 e)).sound in
    let stale = freed-step n m l xs k (c.0 e) a in
    stale-by-test next.goes_on (after_attempts n next.machine) next.machine (freed_through n next.machine j ys) ys (λ f. after-attempts-stale n next.machine j ys sound (c.1 e f) stale) (λ f. stale))
    (λ e. a)

ended-stale : (b : Bool) (m : Machine) (xs : List BlockChunk) → Each (StaleIn m) xs → Each (StaleIn (cond b (stop_by_tag m) m)) xs
ended-stale true m xs a = a
ended-stale false m xs a = a

after-slice-stale : (n : ℕ) (m : Machine) (l : Live) (xs : List BlockChunk) → Sound (state_of m l) → IsCareful n m l → Each (StaleIn m) xs → Each (StaleIn (after_slice n m)) (freed_through n m l xs)
unfolding after_slice after_slice_end
after-slice-stale n m l xs k c a =
    let e = after_attempts n m in
    let z : Machine = record e { parts = record e.parts { left = 0 } } in
    ended-stale (runs z && z.memory.state.pending) z (freed_through n m l xs) (after-attempts-stale n m l xs k c a)

-- ---- a tenant's own events

pub live-is :
    (m k : Machine) → (let live : TenantState = contents.Live m in live) ≡ contents.Live k → m ≡ k
live-is m k e = cc

pub gone-stays : (own : List TenantEvent) (r : Record) (k : Machine) → after_own_events (Gone r) own ≡ contents.Live k → ⊥
unfolding after_own_events
gone-stays [] r k e = cc
gone-stays (OwnSlice n ∷ more) r k e = gone-stays more r k e
gone-stays (OwnStop ∷ more) r k e = gone-stays more r k e

record AreKept (k : Machine) (l : Live) (xs : List BlockChunk) : Type 0 where
  sound : Sound (state_of k l)
  stale : Each (StaleIn k) xs

own-kept : (own : List TenantEvent) (m k : Machine) (l : Live) (xs : List BlockChunk) → Sound (state_of m l) → Each (StaleIn m) xs → AreCareful own m l → after_own_events (contents.Live m) own ≡ contents.Live k
    → AreKept k (live_of own m l) (freed_of own m l xs)
unfolding after_own_events live_of freed_of AreCareful
own-kept [] m k l xs s a c e = subst (λ n. AreKept n l xs) (live-is m k e) (record { sound = s; stale = a })
own-kept (OwnSlice n ∷ more) m k l xs s a c e =
    own-kept more (after_slice n m) k (live_through n m l) (freed_through n m l xs) (after-slice-sound n m l s c.0) (after-slice-stale n m l xs s c.0 a) c.1 e
own-kept (OwnStop ∷ more) m k l xs s a c e = absurd (gone-stays more _ k e)

-- ---- admitted tenants

abbrev pub IsAccepted : ℕ → Life → Type 0
IsAccepted frames life = (ledger : List LedgerEntry) × (admission_refusal frames ledger life.id life.start ≡ None)

refused-none : (o : Option AdmitError) → option_map refusal.Admit o ≡ None → o ≡ None
refused-none (Some e) h = absurd cc
refused-none None h = refl

life-is : (a b : Life) → Some a ≡ Some b → a ≡ b
life-is a b e = cc

accepted-among : (b : Bool) (frames : ℕ) (ledger : List LedgerEntry) (a life : Life) (o : Option Life) → admission_refusal frames ledger a.id a.start ≡ None → cond b (Some a) o ≡ Some life → (o ≡ Some life → IsAccepted frames life) → IsAccepted frames life
accepted-among true frames ledger a life o r e rest = subst (IsAccepted frames) (life-is a life e) (ledger, r)
accepted-among false frames ledger a life o r e rest = rest e

accepted-by : (r : Option Refusal) (e : Call) (frames : ℕ) (ledger : List LedgerEntry) (more : List Call) (id : ℕ) (life : Life) → call_refusal frames ledger e ≡ r
    → life_among id (lives_of (accepted_on r frames ledger e more)) ≡ Some life
    → (life_among id (lives_of (accepted_from frames (ledger_cases r ledger e) more)) ≡ Some life → IsAccepted frames life) → IsAccepted frames life
unfolding call_refusal
accepted-by (Some x) e frames ledger more id life h f rest = rest f
accepted-by None (Slice k n) frames ledger more id life h f rest = rest f
accepted-by None (Stop k) frames ledger more id life h f rest = rest f
accepted-by None (Admit k start) frames ledger more id life h f rest =
    let later = accepted_from frames (ledger_cases None ledger (Admit k start)) more in
    let a : Life = record { id = k; start = start; own = own_events k later } in
    accepted-among (k == id) frames ledger a life (life_among id (lives_of later)) (refused-none _ h) f rest

pub accepted : (frames : ℕ) (ledger : List LedgerEntry) (calls : List Call) (id : ℕ) (life : Life)
    → life_among id (lives_of (accepted_from frames ledger calls)) ≡ Some life → IsAccepted frames life
unfolding decisions
accepted frames ledger [] id life h = absurd cc
accepted frames ledger (e ∷ more) id life h =
    let r = call_refusal frames ledger e in
    accepted-by r e frames ledger more id life refl h (accepted frames (ledger_cases r ledger e) more id life)

machine-is : (k m : Machine) → Some k ≡ Some m → k ≡ m
machine-is k m e = cc

held-is : (h : TenantState) (m : Machine) → machine_held h ≡ Some m → h ≡ contents.Live m
held-is (contents.Live k) m e = ap contents.Live (machine-is k m e)
held-is (Gone r) m e = absurd cc

pub machine-of : (s : Session) (life : Life) (m : Machine) → IsCarefulIn s life m → after_own_events (contents.Live (first_machine life)) life.own ≡ contents.Live m
machine-of s life m h =
    let there = ap (tenant_among life.id) (tenants_are_alone s) ∙ among_tenants life.id (lives s) life h.admitted in
    held-is _ m (sym (ap machine_cases there) ∙ h.machine)

kept-in-session : (s : Session) (life : Life) (m : Machine) → IsCarefulIn s life m → AreKept m (live_of life.own (first_machine life) no_chunks) (freed_in life)
kept-in-session s life m h =
    let a = accepted s.frames [] s.calls life.id life h.admitted in
    own-kept life.own (first_machine life) m no_chunks [] (tenants-start s.frames a.0 life.id life.start a.1 h.sync) tt h.careful (machine-of s life m h)

pub tenants-stay : TenantsStaySound
tenants-stay = λ s life m h. (kept-in-session s life m h).sound

pub freed-of-tenants : FreedBlocksOfTenantsAreRefused
freed-of-tenants = λ s life m h.
    let k = kept-in-session s life m h in
    each-all (IsOutOfReach m.memory) (freed_in life)
    (each-weaker (StaleIn m) (IsOutOfReach m.memory)
    (λ x st addr low high. stale-refused (state_in life m) k.sound (record { place = x.place; tag = x.tag; given = st.0 }) st.1 addr low high)
    (freed_in life) k.stale)

pub guarded-in-session : ChunksOfTenantsAreGuarded
guarded-in-session = record {
  before = λ s life m u addr x h e low high. guarded.before (state_in life m) u addr x (tenants-stay s life m h) e low high;
  after = λ s life m u addr x h e low high. guarded.after (state_in life m) u addr x (tenants-stay s life m h) e low high;
}

pub pages-in-session : FreedPagesOfTenantsAreRefused
pages-in-session = λ s life m addr h lo hi e. freed-pages-refused (state_in life m) addr (tenants-stay s life m h) lo hi e
