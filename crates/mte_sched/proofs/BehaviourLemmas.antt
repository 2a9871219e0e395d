-- A host's content after calls is its tenants alone, and those that the calls admit, whatever a
-- tenant's behaviour is.
use Rattle.std.proofs.Common.{◌≡◌, ℕ, ◌==◌, Bool, true, false, List, [], ◌∷◌, ◌++◌, map}
use Rattle.std.proofs.Common.{Option, Some, None, if◌then◌else◌, refl, ap, sym, ◌∙◌}
use Rattle.mte_tenant.specs.Ledger.{Call, Admit, Slice, Stop, LedgerEntry, call_refusal, without_live, ledger_after, ledger_cases}
use Rattle.mte_sched.specs.Lives.{TenantEvent, OwnSlice, OwnStop, Life, decisions, accepted_calls}
use Rattle.mte_sched.specs.Lives.{own_events, lives_of, lives, life_among}
use Rattle.mte_sched.specs.Behaviours.{Behaviour, TenantState, Live, Gone, lives_on, state_after_slice, state_after_stop, after_own_events}
use Rattle.mte_sched.specs.Behaviours.{Tenant, Content, entry_of, ledger_of, tenant_after_slice, tenant_after_stop, after_admit, after_slice_of, after_stop_of}
use Rattle.mte_sched.specs.Behaviours.{after_call, after_call_cases, after_calls, empty, tenant_of, new_tenant, tenant_among, BehavioursAreAlone, BehavioursAreIsolated}
use Rattle.mte_tenant.specs.declared.refusal.Refusal.{Refusal}

-- The calls that a host accepts.
abbrev pub accepted_from : ℕ → List LedgerEntry → List Call → List Call
accepted_from frames ledger calls = accepted_calls (decisions frames ledger calls)

-- The same after the decision on the first call.
abbrev pub accepted_on : Option Refusal → ℕ → List LedgerEntry → Call → List Call → List Call
accepted_on r frames ledger e more =
    accepted_calls (record { call = e; refusal = r } ∷ decisions frames (ledger_cases r ledger e) more)

-- A tenant after its own events among calls.
abbrev pub grown : {M R : Type 0} (beh : Behaviour M R) → List Call → (Tenant M R) → (Tenant M R)
grown beh calls t = record t { held = after_own_events beh t.held (own_events t.id calls) }

pub sliced_is_live : {M R : Type 0} (beh : Behaviour M R) → (n : ℕ) (h : TenantState M R) → lives_on (state_after_slice beh n h) ≡ lives_on h
sliced_is_live beh n (Live m) = refl
sliced_is_live beh n (Gone r) = refl

pub entry_sliced : {M R : Type 0} (beh : Behaviour M R) → (id n : ℕ) (b : Bool) (t : Tenant M R) → (let u : (Tenant M R) = record t { held = if b then state_after_slice beh n t.held else t.held } in entry_of u) ≡ entry_of t
entry_sliced beh id n true t = ap (λ (l : Bool). let e : LedgerEntry = record { id = t.id; pages = t.pages; live = l } in e) (sliced_is_live beh n t.held)
entry_sliced beh id n false t = refl

pub ledger_sliced : {M R : Type 0} (beh : Behaviour M R) → (id n : ℕ) (ts : List (Tenant M R)) → map entry_of (map (tenant_after_slice beh id n) ts) ≡ map entry_of ts
ledger_sliced beh id n [] = refl
ledger_sliced beh id n (t ∷ ts) = rw (entry_sliced beh id n (t.id == id) t, ledger_sliced beh id n ts) refl

pub stopped_is_live : {M R : Type 0} (beh : Behaviour M R) → (h : TenantState M R) → lives_on (state_after_stop beh h) ≡ false
stopped_is_live beh (Live m) = refl
stopped_is_live beh (Gone r) = refl

pub entry_stopped : {M R : Type 0} (beh : Behaviour M R) → (b : Bool) (t : Tenant M R)
    → (let u : (Tenant M R) = record t { held = if b then state_after_stop beh t.held else t.held } in entry_of u)
    ≡ (if b then (let e : LedgerEntry = record { id = t.id; pages = t.pages; live = false } in e) else entry_of t)
entry_stopped beh true t = ap (λ (l : Bool). let e : LedgerEntry = record { id = t.id; pages = t.pages; live = l } in e) (stopped_is_live beh t.held)
entry_stopped beh false t = refl

pub ledger_stopped : {M R : Type 0} (beh : Behaviour M R) → (id : ℕ) (ts : List (Tenant M R)) → map entry_of (map (tenant_after_stop beh id) ts) ≡ map (without_live id) (map entry_of ts)
ledger_stopped beh id [] = refl
ledger_stopped beh id (t ∷ ts) = rw (entry_stopped beh (t.id == id) t, ledger_stopped beh id ts) refl

pub map_append : {A B : Type 0} (f : A → B) (xs ys : List A) → map f (xs ++ ys) ≡ map f xs ++ map f ys
map_append f [] ys = refl
map_append f (x ∷ xs) ys = ap (λ l. f x ∷ l) (map_append f xs ys)

pub fused : {A : Type 0} (f g h : A → A) → ((t : A) → f (g t) ≡ h t) → (ts : List A) → map f (map g ts) ≡ map h ts
fused f g h same [] = refl
fused f g h same (t ∷ ts) = rw (same t, fused f g h same ts) refl

pub map_same : {A : Type 0} (f : A → A) → ((t : A) → f t ≡ t) → (ts : List A) → map f ts ≡ ts
map_same f same [] = refl
map_same f same (t ∷ ts) = rw (same t, map_same f same ts) refl

pub append_none : {A : Type 0} (xs : List A) → xs ++ [] ≡ xs
append_none [] = refl
append_none (x ∷ xs) = ap (λ l. x ∷ l) (append_none xs)

pub append_one : {A : Type 0} (xs : List A) (y : A) (zs : List A) → (xs ++ y ∷ []) ++ zs ≡ xs ++ y ∷ zs
append_one [] y zs = refl
append_one (x ∷ xs) y zs = ap (λ l. x ∷ l) (append_one xs y zs)

pub append_twice : {A : Type 0} (xs ys zs : List A) → (xs ++ ys) ++ zs ≡ xs ++ (ys ++ zs)
append_twice [] ys zs = refl
append_twice (x ∷ xs) ys zs = ap (λ l. x ∷ l) (append_twice xs ys zs)

-- an own event, or another's
pub sliced_own : {M R : Type 0} (beh : Behaviour M R) → (b : Bool) (n : ℕ) (h : TenantState M R) (own : List TenantEvent) → after_own_events beh (if b then state_after_slice beh n h else h) own ≡ after_own_events beh h ((if b then OwnSlice n ∷ [] else []) ++ own)
sliced_own beh true n h own = refl
sliced_own beh false n h own = refl

pub stopped_own : {M R : Type 0} (beh : Behaviour M R) → (b : Bool) (h : TenantState M R) (own : List TenantEvent) → after_own_events beh (if b then state_after_stop beh h else h) own ≡ after_own_events beh h ((if b then OwnStop ∷ [] else []) ++ own)
stopped_own beh true h own = refl
stopped_own beh false h own = refl

abbrev pub Grown : {M R : Type 0} (beh : Behaviour M R) → List Call → (Content M R) → Type 0
Grown beh calls c =
    let accepted = accepted_from c.frames (ledger_of c) calls in
    (after_calls beh c calls).tenants ≡ map (grown beh accepted) c.tenants ++ map (tenant_of beh) (lives_of accepted)

-- The same after the decision on the first call.
abbrev pub GrownOn : {M R : Type 0} (beh : Behaviour M R) → Option Refusal → Call → List Call → (Content M R) → Type 0
GrownOn beh r e more c =
    let accepted = accepted_on r c.frames (ledger_of c) e more in
    (after_calls beh (after_call_cases beh r c e) more).tenants ≡ map (grown beh accepted) c.tenants ++ map (tenant_of beh) (lives_of accepted)

pub next_grown : {M R : Type 0} (beh : Behaviour M R) → (r : Option Refusal) (e : Call) (more : List Call) (c : Content M R) → ((d : Content M R) → Grown beh more d) → GrownOn beh r e more c
next_grown {M = M} {R = R} beh (Some r) e more c rest = rest c
next_grown {M = M} {R = R} beh None (Slice id n) more c rest =
    let ledger : ledger_of (after_slice_of beh c id n) ≡ ledger_of c = ledger_sliced beh id n c.tenants in
    let step = rw ledger at (rest (after_slice_of beh c id n)) in
    let accepted = accepted_from c.frames (ledger_of c) more in
    let own = fused (grown beh accepted) (tenant_after_slice beh id n) (grown beh (Slice id n ∷ accepted))
    (λ t. ap (λ (h : TenantState M R). let u : (Tenant M R) = record t { held = h } in u) (sliced_own beh (t.id == id) n t.held (own_events t.id accepted))) c.tenants in
    step ∙ ap (λ ts. ts ++ map (tenant_of beh) (lives_of accepted)) own
next_grown {M = M} {R = R} beh None (Stop id) more c rest =
    let ledger : ledger_of (after_stop_of beh c id) ≡ map (without_live id) (ledger_of c) = ledger_stopped beh id c.tenants in
    let step = rw ledger at (rest (after_stop_of beh c id)) in
    let accepted = accepted_from c.frames (map (without_live id) (ledger_of c)) more in
    let own = fused (grown beh accepted) (tenant_after_stop beh id) (grown beh (Stop id ∷ accepted))
    (λ t. ap (λ (h : TenantState M R). let u : (Tenant M R) = record t { held = h } in u) (stopped_own beh (t.id == id) t.held (own_events t.id accepted))) c.tenants in
    step ∙ ap (λ ts. ts ++ map (tenant_of beh) (lives_of accepted)) own
next_grown {M = M} {R = R} beh None (Admit id start) more c rest =
    let new : (Tenant M R) = new_tenant beh id start in
    let after = ledger_of c ++ (entry_of new) ∷ [] in
    let ledger : ledger_of (after_admit beh c id start) ≡ after = map_append entry_of c.tenants (new ∷ []) in
    let step = rw ledger at (rest (after_admit beh c id start)) in
    let accepted = accepted_from c.frames after more in
    step ∙ ap (λ ts. ts ++ map (tenant_of beh) (lives_of accepted)) (map_append (grown beh accepted) c.tenants (new ∷ []))
    ∙ append_one (map (grown beh accepted) c.tenants) (grown beh accepted new) (map (tenant_of beh) (lives_of accepted))

pub all_grown : {M R : Type 0} (beh : Behaviour M R) → (calls : List Call) (c : Content M R) → Grown beh calls c
unfolding decisions
all_grown beh [] c = sym (append_none (map (grown beh []) c.tenants) ∙ map_same (grown beh []) (λ t. refl) c.tenants)
all_grown beh (e ∷ more) c = next_grown beh (call_refusal c.frames (ledger_of c) e) e more c (λ d. all_grown beh more d)

pub ledger_follows : {M R : Type 0} (beh : Behaviour M R) (c : Content M R) (e : Call) → ledger_of (after_call beh c e) ≡ ledger_after (ledger_of c) e
ledger_follows beh c (Admit id start) = map_append entry_of c.tenants (new_tenant beh id start ∷ [])
ledger_follows beh c (Slice id n) = ledger_sliced beh id n c.tenants
ledger_follows beh c (Stop id) = ledger_stopped beh id c.tenants

pub tenants_are_alone : {M R : Type 0} → BehavioursAreAlone M R
tenants_are_alone beh s = all_grown beh s.calls (empty s.frames)

pub some_same : {A : Type 0} (x y : A) → Some x ≡ Some y → x ≡ y
some_same x y h = cc

pub among_next : {M R : Type 0} (beh : Behaviour M R) → (b : Bool) (l : Life) (found : Option Life) (t : Option (Tenant M R)) (life : Life) → (if b then Some l else found) ≡ Some life
    → (found ≡ Some life → t ≡ Some (tenant_of beh life)) → (if b then Some (tenant_of beh l) else t) ≡ Some (tenant_of beh life)
among_next beh true l found t life h rest = ap (λ k. Some (tenant_of beh k)) (some_same l life h)
among_next beh false l found t life h rest = rest h

pub among_tenants : {M R : Type 0} (beh : Behaviour M R) → (id : ℕ) (ls : List Life) (life : Life) → life_among id ls ≡ Some life → tenant_among id (map (tenant_of beh) ls) ≡ Some (tenant_of beh life)
among_tenants beh id [] life h = cc
among_tenants beh id (l ∷ ls) life h = among_next beh (l.id == id) l (life_among id ls) (tenant_among id (map (tenant_of beh) ls)) life h (λ k. among_tenants beh id ls life k)

pub tenants_are_isolated : {M R : Type 0} → BehavioursAreIsolated M R
tenants_are_isolated beh id s t h = record {
  tenant = tenant_of beh h.life;
  one = rw (tenants_are_alone beh s) (among_tenants beh id (lives s) h.life h.one);
  other = rw (tenants_are_alone beh t) (among_tenants beh id (lives t) h.life h.other);
}
