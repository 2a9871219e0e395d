-- What calls make of one tenant, and what is known of it while calls are left.
use Rattle.std.proofs.Common.{◌≡◌, ℕ, zero, suc, ◌<◌, ◌==◌, ◌||◌, ◌&&◌, Bool, true, false, List, [], ◌∷◌, Option, Some, None}
use Rattle.std.proofs.Common.{if◌then◌else◌, option_map, refl, ap, sym, ◌∙◌, arith, ne_eqb, eq-eqb, eqb-true}
use Rattle.mte_svc.specs.declared.record.Record.{Record}
use Rattle.mte_svc.specs.declared.record.Status.TheVariants.{Stopped}
use Rattle.mte_svc.specs.Results.{is_running}
use Rattle.mte_tenant.specs.declared.refusal.Refusal.{Refusal}
use Rattle.mte_tenant.specs.declared.refusal.Refusal.TheVariants as refusal
use Rattle.mte_tenant.specs.declared.admission.AdmitError.{AdmitError}
use Rattle.mte_tenant.specs.declared.admission.AdmitError.TheVariants.{Duplicate, BadReservation}
use Rattle.mte_tenant.specs.Machines.{Start, Machine, runs, start_of, with_status, after_attempts, stop_by_tag, after_slice_end, after_slice, after_stop}
use Rattle.mte_tenant.specs.Ledger.{Call, Admit, Slice, Stop, LedgerEntry, first_of, refuse_if, is_bad, admission_refusal, call_refusal, ledger_after}
use Rattle.mte_sched.specs.Lives.{Session, Life, decisions, own_events, lives_of, lives, life_among}
use Rattle.mte_sched.proofs.IsolationLemmas.{accepted_from}
use Rattle.mte_sched.specs.Contents.{Content, TenantState, Live, Gone, state_after_slice, state_after_stop, after_own_events, tenant_of, ledger_of, after_admit, after_slice_of, after_stop_of, after_call}
use Rattle.mte_sched.specs.Isolation.{LedgerFollows}
use Rattle.mte_script.specs.declared.event.Event.{Event}
use Rattle.mte_session.specs.Sessions.{file_at, call_of, calls_of}
use Rattle.std.proofs.Common.{map, drop, length, get_or, ◌+◌, ◌≤◌, length-drop, subst}
use Rattle.std.proofs.lemmas.List.{drop_more, nil_from_length}
use Rattle.command_run.specs.declared.replay.Replayed.{Replayed}
use Rattle.command_run.specs.Replays.{machine_in, IsOf, IsReplay, number_in, with_no_steps, machine_after, HasPages, IsStarted, IsPlayed}

-- ---- a tenant that has ended

after-attempts-ended : (n : ℕ) (m : Machine) → runs m ≡ false → after_attempts n m ≡ m
unfolding after_attempts
after-attempts-ended zero m e = refl
after-attempts-ended (suc n) m e = rw e refl

ended-as-it-is : (b p : Bool) (m : Machine) → b ≡ false → (if b && p then stop_by_tag m else m) ≡ m
ended-as-it-is false p m e = refl
ended-as-it-is true p m e = cc

after-slice-ended : (n : ℕ) (m : Machine) → runs m ≡ false → (after_slice n m).parts.history ≡ m.parts.history
unfolding after_slice after_slice_end
after-slice-ended n m e =
    ap (λ k. (after_slice_end k).parts.history) (after-attempts-ended n m e)
    ∙ ap (λ (k : Machine). k.parts.history) (ended-as-it-is (runs m) m.memory.state.pending (record m { parts = record m.parts { left = 0 } }) e)

after-stop-ended : (m : Machine) → runs m ≡ false → after_stop m ≡ m
unfolding after_stop
after-stop-ended m e = rw e refl

stops : (b : Bool) (m : Machine) → runs m ≡ b → runs (if b then with_status m Stopped else m) ≡ false
stops true m e = refl
stops false m e = e

after-stop-stops : (m : Machine) → runs (after_stop m) ≡ false
unfolding after_stop
after-stop-stops m = stops (runs m) m refl

-- What is kept of a tenant; one that was stopped is not running.
abbrev pub IsLike : TenantState → Machine → Type 0
IsLike (Live m) n = n ≡ m
IsLike (Gone r) n = (n.parts.history ≡ r) × (runs n ≡ false)

like-after-slice-of : (n : ℕ) (h : TenantState) (m : Machine) → IsLike h m → IsLike (state_after_slice n h) (after_slice n m)
like-after-slice-of n (Live k) m h = ap (after_slice n) h
like-after-slice-of n (Gone r) m h =
    let same = after-slice-ended n m h.1 in
    (same ∙ h.0, ap (λ (a : Record). is_running a.status) same ∙ h.1)

like-after-stop-of : (h : TenantState) (m : Machine) → IsLike h m → IsLike (state_after_stop h) (after_stop m)
like-after-stop-of (Live k) m h = (ap (λ (x : Machine). (after_stop x).parts.history) h, after-stop-stops m)
like-after-stop-of (Gone r) m h =
    let same = after-stop-ended m h.1 in
    (ap (λ (x : Machine). x.parts.history) same ∙ h.0, ap runs same ∙ h.1)

like-is : (h : TenantState) (m : Machine) → IsLike h m → IsOf h m
like-is (Live k) m h = h
like-is (Gone r) m h = h.0

-- ---- the ledger, whose host attempts no instruction

pub ledger_next : (law : LedgerFollows) (c new : Content) (e : Call) → new ≡ after_call c (with_no_steps e) → ledger_of new ≡ ledger_after (ledger_of c) e
ledger_next law c new (Admit id start) h = ap ledger_of h ∙ law c (Admit id start)
ledger_next law c new (Slice id n) h = ap ledger_of h ∙ law c (Slice id 0)
ledger_next law c new (Stop id) h = ap ledger_of h ∙ law c (Stop id)

pub frames_next : (c new : Content) (e : Call) → new ≡ after_call c (with_no_steps e) → new.frames ≡ c.frames
unfolding after_call after_admit after_slice_of after_stop_of
frames_next c new (Admit id start) h = ap (λ (k : Content). k.frames) h
frames_next c new (Slice id n) h = ap (λ (k : Content). k.frames) h
frames_next c new (Stop id) h = ap (λ (k : Content). k.frames) h

not_bad : (d b : Bool) (more : List (Option AdmitError)) → option_map refusal.Admit (first_of (refuse_if d Duplicate ∷ refuse_if b BadReservation ∷ more)) ≡ None → b ≡ false
not_bad true b more h = cc
not_bad false true more h = cc
not_bad false false more h = refl

some_pages : (n : ℕ) (b c : Bool) → ((n == 0) || b || c) ≡ false → 0 < n
some_pages zero b c h = cc
some_pages (suc n) b c h = omega arith

pub has_pages : (frames : ℕ) (ledger : List LedgerEntry) (e : Call) → call_refusal frames ledger e ≡ None → HasPages e
unfolding call_refusal admission_refusal
has_pages frames ledger (Admit id start) h = some_pages start.terms.pages _ _ (not_bad _ (is_bad start.terms) _ h)
has_pages frames ledger (Slice id n) h = tt
has_pages frames ledger (Stop id) h = tt

-- ---- what is known of the tenant while calls are left

-- It was admitted, and what is left of its own events makes of it what the session has.
pub record Grows (id : ℕ) (files : List (List ℕ)) (s : Session) (ledger : List LedgerEntry) (calls : List Call) (t : Replayed) : Type 0 where
  pub life : Life
  pub admitted : life_among id (lives s) ≡ Some life
  pub image : file_at files t.image ≡ life.start.image
  pub held : TenantState
  pub like : IsLike held (machine_in t)
  pub rest : after_own_events held (own_events id (accepted_from s.frames ledger calls)) ≡ (tenant_of life).held

abbrev pub Known : ℕ → List (List ℕ) → Session → List LedgerEntry → List Call → Option Replayed → Type 0
Known id files s ledger calls (Some t) = Grows id files s ledger calls t
Known id files s ledger calls None = life_among id (lives_of (accepted_from s.frames ledger calls)) ≡ life_among id (lives s)

pub known_refused : (id : ℕ) (files : List (List ℕ)) (s : Session) (ledger : List LedgerEntry) (e : Call) (more : List Call) (r : Refusal) (o : Option Replayed)
    → call_refusal s.frames ledger e ≡ Some r → Known id files s ledger (e ∷ more) o → Known id files s ledger more o
unfolding decisions
known_refused id files s ledger e more r None e_some h = rw e_some at h
known_refused id files s ledger e more r (Some t) e_some h = record {
  life = h.life;
  admitted = h.admitted;
  image = h.image;
  held = h.held;
  like = h.like;
  rest = rw e_some at h.rest;
}

-- An accepted call that names another tenant.
none_other : (id : ℕ) (files : List (List ℕ)) (s : Session) (ledger : List LedgerEntry) (e : Call) (more : List Call)
    → call_refusal s.frames ledger e ≡ None → (number_in e ≡ id → ⊥) → Known id files s ledger (e ∷ more) None → Known id files s (ledger_after ledger e) more None
unfolding decisions
none_other id files s ledger (Admit k start) more e_none other h =
    let k_differs : (k == id) ≡ false = ne_eqb k id other in
    let next = rw e_none at h in
    rw k_differs at next
none_other id files s ledger (Slice k n) more e_none other h = rw e_none at h
none_other id files s ledger (Stop k) more e_none other h = rw e_none at h

rest_other : (id f : ℕ) (ledger : List LedgerEntry) (e : Call) (more : List Call) (held all : TenantState)
    → call_refusal f ledger e ≡ None → (number_in e ≡ id → ⊥) → after_own_events held (own_events id (accepted_from f ledger (e ∷ more))) ≡ all → after_own_events held (own_events id (accepted_from f (ledger_after ledger e) more)) ≡ all
unfolding decisions
rest_other id f ledger (Admit k start) more held all e_none other h = rw e_none at h
rest_other id f ledger (Slice k n) more held all e_none other h =
    let differs : (id == k) ≡ false = ne_eqb id k (λ e. other (sym e)) in
    let next = rw e_none at h in
    rw differs at next
rest_other id f ledger (Stop k) more held all e_none other h =
    let differs : (id == k) ≡ false = ne_eqb id k (λ e. other (sym e)) in
    let next = rw e_none at h in
    rw differs at next

known_other : (id : ℕ) (files : List (List ℕ)) (s : Session) (ledger : List LedgerEntry) (e : Call) (more : List Call) (o : Option Replayed)
    → call_refusal s.frames ledger e ≡ None → (number_in e ≡ id → ⊥) → Known id files s ledger (e ∷ more) o → Known id files s (ledger_after ledger e) more o
known_other id files s ledger e more None e_none other h = none_other id files s ledger e more e_none other h
known_other id files s ledger e more (Some t) e_none other h = record {
  life = h.life;
  admitted = h.admitted;
  image = h.image;
  held = h.held;
  like = h.like;
  rest = rest_other id s.frames ledger e more h.held (tenant_of h.life).held e_none other h.rest;
}

-- An accepted call that names the tenant.
pub record Next (id f : ℕ) (ledger : List LedgerEntry) (e : Call) (more : List Call) (all : TenantState) (m : Machine) : Type 0 where
  pub held : TenantState
  pub like : IsLike held (machine_after e m)
  pub rest : after_own_events held (own_events id (accepted_from f (ledger_after ledger e) more)) ≡ all

next_own : (id f : ℕ) (ledger : List LedgerEntry) (e : Call) (more : List Call) (held all : TenantState) (m : Machine)
    → call_refusal f ledger e ≡ None → number_in e ≡ id → IsLike held m → after_own_events held (own_events id (accepted_from f ledger (e ∷ more))) ≡ all → Next id f ledger e more all m
unfolding decisions after_own_events
next_own id f ledger (Admit k start) more held all m e_none own like h = record { held = held; like = like; rest = rw e_none at h }
next_own id f ledger (Slice k n) more held all m e_none own like h =
    let same : (id == k) ≡ true = eq-eqb id k (sym own) in
    let next = rw e_none at h in
    record { held = state_after_slice n held; like = like-after-slice-of n held m like; rest = rw same at next }
next_own id f ledger (Stop k) more held all m e_none own like h =
    let same : (id == k) ≡ true = eq-eqb id k (sym own) in
    let next = rw e_none at h in
    record { held = state_after_stop held; like = like-after-stop-of held m like; rest = rw same at next }

grows_own : (id : ℕ) (files : List (List ℕ)) (s : Session) (ledger : List LedgerEntry) (e : Call) (more : List Call) (t u : Replayed)
    → call_refusal s.frames ledger e ≡ None → number_in e ≡ id → IsPlayed files e (Some t) (Some u)
    → Grows id files s ledger (e ∷ more) t → Grows id files s (ledger_after ledger e) more u
grows_own id files s ledger e more t u e_none own p h =
    let next = next_own id s.frames ledger e more h.held (tenant_of h.life).held (machine_in t) e_none own h.like h.rest in
    record {
      life = h.life;
      admitted = h.admitted;
      image = ap (file_at files) p.1 ∙ h.image;
      held = next.held;
      like = rw p.0 next.like;
      rest = next.rest;
    }

-- The admission of the tenant.
grows_first : (id k : ℕ) (files : List (List ℕ)) (s : Session) (ledger : List LedgerEntry) (start : Start) (more : List Call) (u : Replayed)
    → call_refusal s.frames ledger (Admit k start) ≡ None → k ≡ id → IsStarted files (Admit k start) (Some u)
    → life_among id (lives_of (accepted_from s.frames ledger (Admit k start ∷ more))) ≡ life_among id (lives s) → Grows id files s (ledger_after ledger (Admit k start)) more u
unfolding decisions
grows_first id k files s ledger start more u e_none own p h =
    let same : (k == id) ≡ true = eq-eqb k id own in
    let next = rw e_none at h in
    let first = rw same at next in
    record {
      life = record { id = k; start = start; own = own_events k (accepted_from s.frames (ledger_after ledger (Admit k start)) more) };
      admitted = sym first;
      image = p.1;
      held = Live (start_of k start);
      like = p.0;
      rest = ap (λ j. after_own_events (Live (start_of k start)) (own_events j (accepted_from s.frames (ledger_after ledger (Admit k start)) more))) (sym own);
    }

known_first : (id : ℕ) (files : List (List ℕ)) (s : Session) (ledger : List LedgerEntry) (e : Call) (more : List Call) (o : Option Replayed)
    → call_refusal s.frames ledger e ≡ None → number_in e ≡ id → IsStarted files e o
    → Known id files s ledger (e ∷ more) None → Known id files s (ledger_after ledger e) more o
unfolding decisions
known_first id files s ledger (Admit k start) more (Some u) e_none own p h = grows_first id k files s ledger start more u e_none own p h
known_first id files s ledger (Admit k start) more None e_none own p h = absurd p
known_first id files s ledger (Slice k n) more o e_none own p h = rw p (rw e_none at h)
known_first id files s ledger (Stop k) more o e_none own p h = rw p (rw e_none at h)

known_own : (id : ℕ) (files : List (List ℕ)) (s : Session) (ledger : List LedgerEntry) (e : Call) (more : List Call) (o p : Option Replayed)
    → call_refusal s.frames ledger e ≡ None → number_in e ≡ id → IsPlayed files e o p
    → Known id files s ledger (e ∷ more) o → Known id files s (ledger_after ledger e) more p
known_own id files s ledger e more (Some t) (Some u) e_none own is h = grows_own id files s ledger e more t u e_none own is h
known_own id files s ledger e more (Some t) None e_none own is h = absurd is
known_own id files s ledger e more None p e_none own is h = known_first id files s ledger e more p e_none own is h

-- An accepted call, whichever tenant it names.
pub known_next : (id : ℕ) (files : List (List ℕ)) (s : Session) (ledger : List LedgerEntry) (e : Call) (more : List Call) (o p : Option Replayed)
    → call_refusal s.frames ledger e ≡ None → (number_in e ≡ id → IsPlayed files e o p) → ((number_in e ≡ id → ⊥) → p ≡ o)
    → Known id files s ledger (e ∷ more) o → Known id files s (ledger_after ledger e) more p
known_next id files s ledger e more o p e_none own other h = by (number_in e == id) refl
  where
    by : (b : Bool) → (number_in e == id) ≡ b → Known id files s (ledger_after ledger e) more p
    by true same = known_own id files s ledger e more o p e_none (eqb-true (number_in e) id same) (own (eqb-true (number_in e) id same)) h
    by false same =
        let differs : number_in e ≡ id → ⊥ = λ is. let t : (number_in e == id) ≡ true = eq-eqb (number_in e) id is in let bad : true ≡ false = sym t ∙ same in cc in
        rw (other differs) (known_other id files s ledger e more o e_none differs h)

-- No call is left.
pub known_end : (id : ℕ) (files : List (List ℕ)) (s : Session) (ledger : List LedgerEntry) (o : Option Replayed)
    → Known id files s ledger [] o → IsReplay id files s o
unfolding decisions after_own_events
known_end id files s ledger None h = sym h
known_end id files s ledger (Some t) h = record {
  life = h.life;
  admitted = h.admitted;
  image = h.image;
  machine = rw (← h.rest) (like-is h.held (machine_in t) h.like);
}

-- ---- the events in turn

pub accepted_next : (law : LedgerFollows) (id : ℕ) (files : List (List ℕ)) (s : Session) (c new : Content) (events : List Event) (i : ℕ) (d : Event) (o p : Option Replayed)
    → i < length events → c.frames ≡ s.frames → call_refusal c.frames (ledger_of c) (call_of files (get_or events i d)) ≡ None
    → new ≡ after_call c (with_no_steps (call_of files (get_or events i d)))
    → (number_in (call_of files (get_or events i d)) ≡ id → IsPlayed files (call_of files (get_or events i d)) o p)
    → ((number_in (call_of files (get_or events i d)) ≡ id → ⊥) → p ≡ o)
    → Known id files s (ledger_of c) (calls_of files (drop i events)) o
    → (new.frames ≡ s.frames) × Known id files s (ledger_of new) (calls_of files (drop (i + 1) events)) p
accepted_next law id files s c new events i d o p below frames accepted is own other h =
    let e = call_of files (get_or events i d) in
    let here = subst (λ (l : List Call). Known id files s (ledger_of c) l o) (ap (map (call_of files)) (drop_more events i d below)) h in
    let none : call_refusal s.frames (ledger_of c) e ≡ None = subst (λ (f : ℕ). call_refusal f (ledger_of c) e ≡ None) frames accepted in
    let after = known_next id files s (ledger_of c) e (calls_of files (drop (i + 1) events)) o p none own other here in (
      frames_next c new e is ∙ frames,
      subst (λ (l : List LedgerEntry). Known id files s l (calls_of files (drop (i + 1) events)) p) (sym (ledger_next law c new e is)) after,
    )

pub refused_next : (id : ℕ) (files : List (List ℕ)) (s : Session) (c new : Content) (events : List Event) (i : ℕ) (d : Event) (r : Refusal) (o : Option Replayed)
    → i < length events → c.frames ≡ s.frames → call_refusal c.frames (ledger_of c) (call_of files (get_or events i d)) ≡ Some r → new ≡ c
    → Known id files s (ledger_of c) (calls_of files (drop i events)) o
    → (new.frames ≡ s.frames) × Known id files s (ledger_of new) (calls_of files (drop (i + 1) events)) o
refused_next id files s c new events i d r o below frames refused is h =
    let e = call_of files (get_or events i d) in
    let here = subst (λ (l : List Call). Known id files s (ledger_of c) l o) (ap (map (call_of files)) (drop_more events i d below)) h in
    let some : call_refusal s.frames (ledger_of c) e ≡ Some r = subst (λ (f : ℕ). call_refusal f (ledger_of c) e ≡ Some r) frames refused in
    let after = known_refused id files s (ledger_of c) e (calls_of files (drop (i + 1) events)) r o some here in
    (ap (λ (k : Content). k.frames) is ∙ frames, subst (λ (k : Content). Known id files s (ledger_of k) (calls_of files (drop (i + 1) events)) o) (sym is) after)

pub all_played : (id : ℕ) (files : List (List ℕ)) (s : Session) (ledger : List LedgerEntry) (events : List Event) (i : ℕ) (o : Option Replayed)
    → length events ≤ i → Known id files s ledger (calls_of files (drop i events)) o → IsReplay id files s o
all_played id files s ledger events i o over h =
    let none : drop i events ≡ [] = nil_from_length (drop i events) (simp length-drop (omega arith)) in
    known_end id files s ledger o (rw none at h)
