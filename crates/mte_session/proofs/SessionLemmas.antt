-- Calls one after another.
use Rattle.std.proofs.Common.{◌≡◌, ℕ, ◌+◌, ◌<◌, ◌≤◌, List, [], ◌∷◌, ◌++◌, length, map, drop, get_or}
use Rattle.std.proofs.Common.{Option, Some, None, refl, ap, sym, ◌∙◌, arith, length-drop}
use Rattle.std.proofs.Common.{append_assoc}
use Rattle.std.proofs.lemmas.List.{drop_more, nil_from_length, append-nil}
use Rattle.mte_script.specs.declared.event.Event.{Event}
use Rattle.mte_tenant.specs.declared.refusal.Refusal.{Refusal}
use Rattle.mte_tenant.specs.declared.refusal.Refused.{Refused}
use Rattle.mte_sched.specs.declared.tenant.Tenant as code
use Rattle.mte_sched.specs.declared.tenant.Holding.{Holding}
use Rattle.mte_sched.specs.declared.tenant.Holding.TheVariants as kept
use Rattle.mte_tenant.specs.Ledger.{Call, Admit, Slice, Stop, LedgerEntry, call_refusal, ledger_cases}
use Rattle.mte_sched.specs.Lives.{Session, Life, decisions, refusals_of, lives, refusals}
use Rattle.mte_sched.specs.Contents.{Content, ledger_of, after_admit, after_slice_of, after_stop_of, after_call, after_call_cases, after_calls, empty, record_of, tenant_of}
use Rattle.mte_sched.specs.declared.host.Host.{Host}
use Rattle.mte_sched.specs.Hosts.{pool_of}
use Rattle.mte_sched.specs.Tenants.{state_of_holding, record_of_holding, tenants_in, record_in}
use Rattle.mte_sched.specs.Isolation.{LedgerFollows, TenantsAreAlone, content_after}
use Rattle.mte_session.specs.Sessions.{call_of, calls_of, session_of, session_text, tenant_texts, life_text, life_texts, refused_texts}
use Rattle.mte_session.specs.Progress.{Progress, record_texts, refusal_in, play_cases, after_event, run_all, progress_text}
use Rattle.mte_session.specs.Report.{record_text}

abbrev pub at : Content → List Refused → Progress
at c refusals = record { content = c; refused = refusals }

pub run_step : (files : List (List ℕ)) (p : Progress) (events : List Event) (i : ℕ) (d : Event) → i < length events
    → run_all p (calls_of files (drop i events)) (i + 1) ≡ run_all (after_event p (call_of files (get_or events i d)) (i + 1)) (calls_of files (drop (i + 1) events)) (i + 1 + 1)
unfolding run_all
run_step files p events i d below = rw (drop_more events i d below) refl

-- A call that is not refused.
pub run_accepted : (files : List (List ℕ)) (c new : Content) (refusals : List Refused) (events : List Event) (i : ℕ) (d : Event) (all : Progress) → i < length events
    → refusal_in c (call_of files (get_or events i d)) ≡ None → new ≡ after_call c (call_of files (get_or events i d))
    → run_all (at c refusals) (calls_of files (drop i events)) (i + 1) ≡ all → run_all (at new refusals) (calls_of files (drop (i + 1) events)) (i + 1 + 1) ≡ all
unfolding after_event
run_accepted files c new refusals events i d all below e_none e_new h =
    let step = sym (run_step files (at c refusals) events i d below) ∙ h in
    let k = rw e_none at step in
    rw e_new k

-- And one that is.
pub run_refused : (files : List (List ℕ)) (c new : Content) (refusals : List Refused) (r : Refusal) (events : List Event) (i : ℕ) (d : Event) (all : Progress) → i < length events
    → refusal_in c (call_of files (get_or events i d)) ≡ Some r → new ≡ c
    → run_all (at c refusals) (calls_of files (drop i events)) (i + 1) ≡ all
    → run_all (at new (refusals ++ (record { event = i + 1; refusal = r }) ∷ [])) (calls_of files (drop (i + 1) events)) (i + 1 + 1) ≡ all
unfolding after_event
run_refused files c new refusals r events i d all below e_some e_new h =
    let step = sym (run_step files (at c refusals) events i d below) ∙ h in
    let k = rw e_some at step in
    rw e_new k

pub run_end : (files : List (List ℕ)) (p all : Progress) (events : List Event) (i n : ℕ) → length events ≤ i → run_all p (calls_of files (drop i events)) n ≡ all → p ≡ all
unfolding run_all
run_end files p all events i n over h =
    let none : drop i events ≡ [] = nil_from_length (drop i events) (simp length-drop (omega arith)) in
    rw none at h

-- ---- what the calls leave, by the definitions of a session

abbrev pub Ends : LedgerFollows → Content → List Refused → List Call → ℕ → Type 0
Ends law c done calls n =
    run_all (at c done) calls n ≡ at (after_calls c calls) (done ++ refusals_of n (decisions c.frames (ledger_of c) calls))

kept_frames : (c : Content) (e : Call) → (after_call c e).frames ≡ c.frames
unfolding after_call after_admit after_slice_of after_stop_of
kept_frames c (Admit id start) = refl
kept_frames c (Slice id n) = refl
kept_frames c (Stop id) = refl

ends_next : (law : LedgerFollows) (r : Option Refusal) (e : Call) (more : List Call) (c : Content) (done : List Refused) (n : ℕ)
    → ((d : Content) (l : List Refused) → Ends law d l more (n + 1))
    → run_all (play_cases r (at c done) e n) more (n + 1)
    ≡ at (after_calls (after_call_cases r c e) more) (done ++ refusals_of n (record { call = e; refusal = r } ∷ decisions c.frames (ledger_cases r (ledger_of c) e) more))
unfolding after_call
ends_next law (Some r) e more c done n rest =
    rest c (done ++ (record { event = n; refusal = r }) ∷ [])
    ∙ ap (λ l. at (after_calls c more) l) (append_assoc done ((record { event = n; refusal = r }) ∷ []) (refusals_of (n + 1) (decisions c.frames (ledger_of c) more)))
ends_next law None e more c done n rest =
    let follows = law c e in
    let frames : (after_call c e).frames ≡ c.frames = kept_frames c e in
    rest (after_call c e) done
    ∙ ap (λ (f : ℕ). at (after_calls (after_call c e) more) (done ++ refusals_of (n + 1) (decisions f (ledger_of (after_call c e)) more))) frames
    ∙ ap (λ (l : List LedgerEntry). at (after_calls (after_call c e) more) (done ++ refusals_of (n + 1) (decisions c.frames l more))) follows

pub ends : (law : LedgerFollows) (calls : List Call) (c : Content) (done : List Refused) (n : ℕ) → Ends law c done calls n
unfolding run_all after_event after_calls decisions
ends law [] c done n = ap (λ l. at c l) (sym (append-nil done))
ends law (e ∷ more) c done n =
    ends_next law (call_refusal c.frames (ledger_of c) e) e more c done n (λ d l. ends law more d l (n + 1))

texts_of : (ls : List Life) → tenant_texts (map tenant_of ls) ≡ life_texts ls
texts_of [] = refl
texts_of (l ∷ ls) = ap (λ t. life_text l ++ t) (texts_of ls)

pub concat_lives : (s : Session) (alone : TenantsAreAlone) → tenant_texts (content_after s).tenants ≡ life_texts (lives s)
concat_lives s alone = ap tenant_texts (alone s) ∙ texts_of (lives s)

-- The report, by what the calls left.
pub session_text_is : (law : LedgerFollows) (alone : TenantsAreAlone) (frames : ℕ) (files : List (List ℕ)) (events : List Event) (c : Content) (done : List Refused)
    → run_all (at (empty frames) []) (calls_of files events) 1 ≡ at c done
    → session_text (session_of frames files events) ≡ progress_text (at c done)
unfolding session_text
session_text_is law alone frames files events c done h =
    let s = session_of frames files events in
    let whole : at (content_after s) (refusals s) ≡ at c done = sym (ends law s.calls (empty frames) [] 1) ∙ h in
    ap (λ t. refused_texts (refusals s) ++ t) (sym (concat_lives s alone)) ∙ ap progress_text whole

-- ---- a tenant's record

tenant_record : (h : Host) (pages : ℕ) (o : Holding) → record_of (state_of_holding (pool_of h) pages o) ≡ record_of_holding o
tenant_record h pages (kept.Live l) = refl
tenant_record h pages (kept.Gone r) = refl

pub texts_of_records : (h : Host) (ts : List code.Tenant) → tenant_texts (tenants_in (pool_of h) ts) ≡ record_texts ts
texts_of_records h [] = refl
texts_of_records h (t ∷ ts) =
    ap (λ r. record_text r ++ tenant_texts (tenants_in (pool_of h) ts)) (tenant_record h t.pages t.holding)
    ∙ ap (λ l. record_text (record_in t) ++ l) (texts_of_records h ts)
