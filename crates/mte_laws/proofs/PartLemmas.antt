-- What was accepted in a session is accepted alone.
use Rattle.std.proofs.Common.{◌≡◌, ℕ, ◌+◌, ◌-◌, ◌≤◌, ◌==◌, ◌&&◌, ◌||◌, Bool, true, false, List, [], ◌∷◌, ◌++◌, map, get_or}
use Rattle.std.proofs.Common.{Option, Some, None, if◌then◌else◌, refl, ap, sym, ◌∙◌, arith}
use Rattle.std.specs.Prelude.{length, filter, is_none, flat_map, nat_lt, option_map, zip, All}
use Rattle.std.specs.List.{list_any}
use Rattle.std.proofs.lemmas.Bool.Decides.{nat_tests}
use Rattle.std.proofs.lemmas.Bool.{eqb-true, eq-eqb, ne_eqb}
use Rattle.std.proofs.lemmas.List.{append-nil}
use Rattle.std.proofs.lemmas.List.Elements.{All-nil, All-cons, All-head, All-tail}
use Rattle.mte_tenant.specs.declared.admission.AdmitError.{AdmitError}
use Rattle.mte_tenant.specs.declared.admission.AdmitError.TheVariants.{Duplicate}
use Rattle.mte_tenant.specs.declared.admission.AdmitError.TheVariants.{NoFrames}
use Rattle.mte_tenant.specs.declared.refusal.Refusal.{Refusal}
use Rattle.mte_tenant.specs.declared.refusal.Refusal.TheVariants as refusal
use Rattle.mte_tenant.specs.Machines.{Start}
use Rattle.mte_tenant.specs.Ledger.{Call, Admit, Slice, Stop, LedgerEntry, has_id, has_live_id, without_live, new_entry, charge_of}
use Rattle.mte_tenant.specs.Ledger.{first_of, refuse_if, facts_of, admission_tests, unless_live, admission_refusal, call_refusal, ledger_cases}
use Rattle.mte_sched.specs.Lives.{TenantEvent, OwnSlice, OwnStop, Life, Session, Decision, decisions, accepted_calls, refusals_of, own_events, lives_of, lives, refusals}
use Rattle.mte_script.specs.declared.event.Event.{Event}
use Rattle.mte_script.specs.declared.event.Event.TheVariants as event
use Rattle.mte_session.specs.Sessions.{call_of, calls_of, session_of, start_at, session_text, refused_texts, life_text, life_texts}
use Rattle.mte_laws.specs.SessionParts.{without_steps, DecisionsNeedNoSteps, own_call, session_alone, IsAlone, AcceptedAlone, ReportInParts}
use Rattle.mte_laws.specs.SessionParts.{number_in, own_mask, mask_of, script_alone, ScriptInParts, TextsInParts}
use Rattle.mte_laws.specs.ScriptLines.{chosen, LinesMayBeLeftOut}
use Rattle.mte_sched.proofs.EachLemmas.{or_left, or_right}

-- ---- decisions need no steps

same_refusal : (frames : ℕ) (ledger : List LedgerEntry) (e : Call) → call_refusal frames ledger (without_steps e) ≡ call_refusal frames ledger e
unfolding call_refusal
same_refusal frames ledger (Admit id start) = refl
same_refusal frames ledger (Slice id steps) = refl
same_refusal frames ledger (Stop id) = refl

same_ledger : (r : Option Refusal) (ledger : List LedgerEntry) (e : Call) → ledger_cases r ledger (without_steps e) ≡ ledger_cases r ledger e
same_ledger (Some r) ledger e = refl
same_ledger None ledger (Admit id start) = refl
same_ledger None ledger (Slice id steps) = refl
same_ledger None ledger (Stop id) = refl

pub decisions_need_no_steps : DecisionsNeedNoSteps
unfolding decisions
decisions_need_no_steps frames ledger [] = refl
decisions_need_no_steps frames ledger (e ∷ more) =
    let r = call_refusal frames ledger e in
    rw (same_refusal frames ledger e, same_ledger r ledger e)
    (ap (λ (ds : List Decision). (let d : Decision = record { call = without_steps e; refusal = r } in d) ∷ ds)
    (decisions_need_no_steps frames (ledger_cases r ledger e) more))

-- ---- the ledger

or_assoc : (a b c : Bool) → (a || (b || c)) ≡ ((a || b) || c)
or_assoc true b c = refl
or_assoc false b c = refl

or_false : (a : Bool) → (a || false) ≡ a
or_false true = refl
or_false false = refl

or_true : (a : Bool) → (a || true) ≡ true
or_true true = refl
or_true false = refl

and_false : (a : Bool) → (a && false) ≡ false
and_false true = refl
and_false false = refl

any_append : {A : Type 0} (p : A → Bool) (xs ys : List A) → list_any p (xs ++ ys) ≡ (list_any p xs || list_any p ys)
any_append p [] ys = refl
any_append p (x ∷ xs) ys = ap (λ b. p x || b) (any_append p xs ys) ∙ or_assoc (p x) (list_any p xs) (list_any p ys)

any_map : {A : Type 0} (p q : A → Bool) (f : A → A) → ((x : A) → p (f x) ≡ q x) → (xs : List A) → list_any p (map f xs) ≡ list_any q xs
any_map p q f same [] = refl
any_map p q f same (x ∷ xs) = rw (same x, any_map p q f same xs) refl

none_of : (es : List LedgerEntry) → list_any (λ e. false) es ≡ false
none_of [] = refl
none_of (e ∷ es) = none_of es

known_entry : (id : ℕ) (b : Bool) (e : LedgerEntry) → has_id id (if b then record e { live = false } else e) ≡ has_id id e
known_entry id true e = refl
known_entry id false e = refl

-- A stop leaves each number known.
still_known : (id k : ℕ) (ledger : List LedgerEntry) → list_any (has_id id) (map (without_live k) ledger) ≡ list_any (has_id id) ledger
still_known id k ledger = any_map (has_id id) (has_id id) (without_live k) (λ e. known_entry id (e.id == k) e) ledger

own_stopped : (id : ℕ) (b : Bool) (e : LedgerEntry) → (e.id == id) ≡ b → has_live_id id (if b then record e { live = false } else e) ≡ false
own_stopped id true e h = refl
own_stopped id false e h = rw h (and_false e.live)

-- After its stop a tenant is not live.
no_longer_live : (id : ℕ) (ledger : List LedgerEntry) → list_any (has_live_id id) (map (without_live id) ledger) ≡ false
no_longer_live id ledger = any_map (has_live_id id) (λ e. false) (without_live id) (λ e. own_stopped id (e.id == id) e refl) ledger ∙ none_of ledger

other_stopped : (id k : ℕ) (b : Bool) (e : LedgerEntry) → (k ≡ id → ⊥) → (e.id == k) ≡ b → has_live_id id (if b then record e { live = false } else e) ≡ has_live_id id e
other_stopped id k true e ne h =
    let same : e.id ≡ k = eqb-true e.id k h in
    let no : (e.id == id) ≡ false = ne_eqb e.id id (λ g. ne (sym same ∙ g)) in
    rw no (sym (and_false e.live))
other_stopped id k false e ne h = refl

-- Another tenant's stop leaves it as live as it was.
as_live : (id k : ℕ) (ledger : List LedgerEntry) → (k ≡ id → ⊥) → list_any (has_live_id id) (map (without_live k) ledger) ≡ list_any (has_live_id id) ledger
as_live id k ledger ne = any_map (has_live_id id) (has_live_id id) (without_live k) (λ e. other_stopped id k (e.id == k) e ne refl) ledger

-- ---- what is not refused

live_there : (b : Bool) → unless_live b ≡ None → b ≡ true
live_there true h = refl
live_there false h = absurd cc

unmapped : {A B : Type 0} (f : A → B) (o : Option A) → option_map f o ≡ None → o ≡ None
unmapped f (Some x) h = absurd cc
unmapped f None h = refl

not_if : (b : Bool) (e : AdmitError) (rest : List (Option AdmitError)) → first_of (refuse_if b e ∷ rest) ≡ None → b ≡ false
not_if true e rest h = absurd cc
not_if false e rest h = refl

-- The tests of an admission alone: its number is new, its frames are there, and nobody else is.
alone_tests : (k : Bool) (a b c d e z : Option AdmitError) → first_of (refuse_if k Duplicate ∷ a ∷ b ∷ c ∷ d ∷ e ∷ []) ≡ None → z ≡ None
    → first_of (None ∷ a ∷ b ∷ c ∷ z ∷ None ∷ []) ≡ None
alone_tests true a b c d e z h g = absurd cc
alone_tests false (Some x) b c d e z h g = absurd cc
alone_tests false None (Some x) c d e z h g = absurd cc
alone_tests false None None (Some x) d e z h g = absurd cc
alone_tests false None None None d e z h g = rw g refl

-- An accepted number was not known.
was_unknown : (frames : ℕ) (ledger : List LedgerEntry) (id : ℕ) (start : Start) → call_refusal frames ledger (Admit id start) ≡ None → list_any (has_id id) ledger ≡ false
unfolding call_refusal admission_refusal
was_unknown frames ledger id start h = not_if (list_any (has_id id) ledger) Duplicate _ (unmapped refusal.Admit _ h)

-- The frames were there.
fits_by : (k : Bool) (a b c e : Option AdmitError) (few : Bool) → first_of (refuse_if k Duplicate ∷ a ∷ b ∷ c ∷ refuse_if few NoFrames ∷ e ∷ []) ≡ None → few ≡ false
fits_by true a b c e few h = absurd cc
fits_by false (Some x) b c e few h = absurd cc
fits_by false None (Some x) c e few h = absurd cc
fits_by false None None (Some x) e few h = absurd cc
fits_by false None None None e true h = absurd cc
fits_by false None None None e false h = refl

within : (n x c : ℕ) → nat_lt (n - x) c ≡ false → c ≤ n
within n x c h = grind (arith, nat_tests)

frames_fit : (frames : ℕ) (ledger : List LedgerEntry) (id : ℕ) (start : Start) → call_refusal frames ledger (Admit id start) ≡ None → charge_of start.terms.pages ≤ frames
unfolding call_refusal admission_refusal
frames_fit frames ledger id start h =
    let facts = facts_of frames ledger id in
    let tests = admission_tests facts start in
    let at = λ (i : ℕ). get_or tests i None in
    within frames _ _ (fits_by facts.known (at 1) (at 2) (at 3) (at 5) (nat_lt facts.left (charge_of start.terms.pages)) (unmapped refusal.Admit _ h))

enough : (n : ℕ) → nat_lt (n - 0) n ≡ false
enough n = grind arith

-- An accepted admission is accepted by a host of its own frames alone.
admitted_alone : (frames : ℕ) (ledger : List LedgerEntry) (id : ℕ) (start : Start) → call_refusal frames ledger (Admit id start) ≡ None
    → call_refusal (charge_of start.terms.pages) [] (Admit id start) ≡ None
unfolding call_refusal admission_refusal
admitted_alone frames ledger id start h =
    let facts = facts_of frames ledger id in
    let tests = admission_tests facts start in
    let at = λ (i : ℕ). get_or tests i None in
    ap (option_map refusal.Admit)
    (alone_tests facts.known (at 1) (at 2) (at 3) (at 4) (at 5) _ (unmapped refusal.Admit _ h) (ap (λ b. refuse_if b NoFrames) (enough (charge_of start.terms.pages))))

-- ---- a tenant's own events, alone

abbrev pub accepted_from : ℕ → List LedgerEntry → List Call → List Call
accepted_from frames ledger calls = accepted_calls (decisions frames ledger calls)

abbrev accepted_on : Option Refusal → ℕ → List LedgerEntry → Call → List Call → List Call
accepted_on r frames ledger e more =
    accepted_calls ((let d : Decision = record { call = e; refusal = r } in d) ∷ decisions frames (ledger_cases r ledger e) more)

-- A call that is accepted.
abbrev taken : Call → Decision
taken e = record { call = e; refusal = None }

all_taken : (calls : List Call) → accepted_calls (map taken calls) ≡ calls
all_taken [] = refl
all_taken (e ∷ more) = ap (λ l. e ∷ l) (all_taken more)

none_refused : (n : ℕ) (calls : List Call) → refusals_of n (map taken calls) ≡ []
none_refused n [] = refl
none_refused n (e ∷ more) = none_refused (n + 1) more

own_again : (id : ℕ) (own : List TenantEvent) → own_events id (map (own_call id) own) ≡ own
own_again id [] = refl
own_again id (OwnSlice n ∷ more) = rw (eq-eqb id id refl) (ap (λ l. OwnSlice n ∷ l) (own_again id more))
own_again id (OwnStop ∷ more) = rw (eq-eqb id id refl) (ap (λ l. OwnStop ∷ l) (own_again id more))

no_lives : (id : ℕ) (own : List TenantEvent) → lives_of (map (own_call id) own) ≡ []
no_lives id [] = refl
no_lives id (OwnSlice n ∷ more) = no_lives id more
no_lives id (OwnStop ∷ more) = no_lives id more

module _ (frames f id pages : ℕ) where
  abbrev entry : Bool → LedgerEntry
  entry live = record { id = id; pages = pages; live = live }

  -- All of a tenant's own calls are accepted.
  abbrev AllTaken : Bool → List TenantEvent → Type 0
  AllTaken live own = decisions f (entry live ∷ []) (map (own_call id) own) ≡ map taken (map (own_call id) own)

  taken_slice : (n : ℕ) (own : List TenantEvent) → AllTaken true own → AllTaken true (OwnSlice n ∷ own)
  unfolding decisions call_refusal
  taken_slice n own h = rw (eq-eqb id id refl) (ap (λ l. taken (Slice id n) ∷ l) h)

  taken_stop : (own : List TenantEvent) → AllTaken false own → AllTaken true (OwnStop ∷ own)
  unfolding decisions call_refusal
  taken_stop own h = rw (eq-eqb id id refl, eq-eqb id id refl) (ap (λ l. taken (Stop id) ∷ l) h)

  -- The own events that a list of calls has, where the tenant is known.
  abbrev OwnTaken : List Call → Type 0
  OwnTaken more = (ledger : List LedgerEntry) (live : Bool) → list_any (has_id id) ledger ≡ true → list_any (has_live_id id) ledger ≡ live
      → AllTaken live (own_events id (accepted_from frames ledger more))

  slice_case : (b live : Bool) (n : ℕ) (own : List TenantEvent) → (b ≡ true → live ≡ true) → AllTaken live own → AllTaken live ((if b then OwnSlice n ∷ [] else []) ++ own)
  slice_case false live n own on h = h
  slice_case true true n own on h = taken_slice n own h
  slice_case true false n own on h = let no : false ≡ true = on refl in absurd cc

  stop_case : (b live : Bool) (own : List TenantEvent) → (b ≡ true → live ≡ true) → AllTaken (if b then false else live) own → AllTaken live ((if b then OwnStop ∷ [] else []) ++ own)
  stop_case false live own on h = h
  stop_case true true own on h = taken_stop own h
  stop_case true false own on h = let no : false ≡ true = on refl in absurd cc

  live_after : (b : Bool) (k : ℕ) (ledger : List LedgerEntry) (live : Bool) → (id == k) ≡ b → list_any (has_live_id id) ledger ≡ live
      → list_any (has_live_id id) (map (without_live k) ledger) ≡ (if b then false else live)
  live_after true k ledger live same lives = let e : id ≡ k = eqb-true id k same in rw (← e) (no_longer_live id ledger)
  live_after false k ledger live same lives =
      as_live id k ledger (λ e. let yes : (id == k) ≡ true = eq-eqb id k (sym e) in let no : true ≡ false = sym yes ∙ same in absurd cc) ∙ lives

  is_live_there : (k : ℕ) (ledger : List LedgerEntry) (live : Bool) → list_any (has_live_id id) ledger ≡ live → unless_live (list_any (has_live_id k) ledger) ≡ None
      → (id == k) ≡ true → live ≡ true
  is_live_there k ledger live lives h same =
      let e : id ≡ k = eqb-true id k same in
      sym lives ∙ ap (λ (j : ℕ). list_any (has_live_id j) ledger) e ∙ live_there _ h

  known_after : (ledger : List LedgerEntry) (e : LedgerEntry) → list_any (has_id id) ledger ≡ true → list_any (has_id id) (ledger ++ e ∷ []) ≡ true
  known_after ledger e known = any_append (has_id id) ledger (e ∷ []) ∙ ap (λ b. b || (has_id id e || false)) known

  lives_after : (ledger : List LedgerEntry) (k p : ℕ) (live : Bool) → list_any (has_id id) ledger ≡ true → list_any (has_id k) ledger ≡ false → list_any (has_live_id id) ledger ≡ live
      → list_any (has_live_id id) (ledger ++ new_entry k p ∷ []) ≡ live
  lives_after ledger k p live known unknown lives =
      let differs : (k == id) ≡ false =
      ne_eqb k id (λ e. let z : list_any (has_id id) ledger ≡ false = ap (λ (j : ℕ). list_any (has_id j) ledger) (sym e) ∙ unknown in let no : true ≡ false = sym known ∙ z in absurd cc) in
      any_append (has_live_id id) ledger (new_entry k p ∷ []) ∙ rw (differs, or_false) lives

  own_next : (r : Option Refusal) (e : Call) (more : List Call) (ledger : List LedgerEntry) (live : Bool) → call_refusal frames ledger e ≡ r
      → list_any (has_id id) ledger ≡ true → list_any (has_live_id id) ledger ≡ live → OwnTaken more → AllTaken live (own_events id (accepted_on r frames ledger e more))
  unfolding call_refusal
  own_next (Some r) e more ledger live h known lives rest = rest ledger live known lives
  own_next None (Admit k start) more ledger live h known lives rest =
      rest (ledger ++ new_entry k start.terms.pages ∷ []) live (known_after ledger _ known)
      (lives_after ledger k start.terms.pages live known (was_unknown frames ledger k start h) lives)
  own_next None (Slice k n) more ledger live h known lives rest =
      slice_case (id == k) live n (own_events id (accepted_from frames ledger more)) (is_live_there k ledger live lives h) (rest ledger live known lives)
  own_next None (Stop k) more ledger live h known lives rest =
      stop_case (id == k) live (own_events id (accepted_from frames (map (without_live k) ledger) more)) (is_live_there k ledger live lives h)
      (rest (map (without_live k) ledger) (if id == k then false else live) (still_known id k ledger ∙ known) (live_after (id == k) k ledger live refl lives))

  own_taken : (calls : List Call) → OwnTaken calls
  unfolding decisions
  own_taken [] ledger live known lives = refl
  own_taken (e ∷ more) ledger live known lives = own_next (call_refusal frames ledger e) e more ledger live refl known lives (own_taken more)

-- ---- a session alone

alone_of : (frames : ℕ) (life : Life) → (session_alone life).frames ≤ frames → decisions (session_alone life).frames [] (session_alone life).calls ≡ map taken (session_alone life).calls → IsAlone frames life
alone_of frames life fits h =
    let own = map (own_call life.id) life.own in
    record {
      fits = fits;
      refused = ap (refusals_of 1) h ∙ none_refused 1 (session_alone life).calls;
      has =
          ap (λ ds. lives_of (accepted_calls ds)) h ∙ ap lives_of (all_taken (session_alone life).calls)
          ∙ ap (λ (es : List TenantEvent). (let l : Life = record { id = life.id; start = life.start; own = es } in l) ∷ lives_of own) (own_again life.id life.own)
          ∙ ap (λ ls. life ∷ ls) (no_lives life.id life.own);
    }

text_alone : (frames : ℕ) (life : Life) → IsAlone frames life → session_text (session_alone life) ≡ life_text life
unfolding session_text
text_alone frames life h = rw (h.refused, h.has) (append-nil (life_text life))

taken_admit : (frames : ℕ) (id : ℕ) (start : Start) (own : List Call) → call_refusal frames [] (Admit id start) ≡ None
    → decisions frames (new_entry id start.terms.pages ∷ []) own ≡ map taken own → decisions frames [] (Admit id start ∷ own) ≡ map taken (Admit id start ∷ own)
unfolding decisions
taken_admit frames id start own accepted h = rw accepted (ap (λ l. taken (Admit id start) ∷ l) h)

known_new : (ledger : List LedgerEntry) (id pages : ℕ) → list_any (has_id id) (ledger ++ new_entry id pages ∷ []) ≡ true
known_new ledger id pages = any_append (has_id id) ledger (new_entry id pages ∷ []) ∙ rw (eq-eqb id id refl) (or_true (list_any (has_id id) ledger))

live_new : (ledger : List LedgerEntry) (id pages : ℕ) → list_any (has_live_id id) (ledger ++ new_entry id pages ∷ []) ≡ true
live_new ledger id pages = any_append (has_live_id id) ledger (new_entry id pages ∷ []) ∙ rw (eq-eqb id id refl) (or_true (list_any (has_live_id id) ledger))

-- Each tenant that calls admit is alone in its own session.
abbrev AllAlone : ℕ → List Call → Type 0
AllAlone frames calls = (ledger : List LedgerEntry) → All (IsAlone frames) (lives_of (accepted_from frames ledger calls))

alone_next : (frames : ℕ) (r : Option Refusal) (e : Call) (more : List Call) (ledger : List LedgerEntry) → call_refusal frames ledger e ≡ r → AllAlone frames more
    → All (IsAlone frames) (lives_of (accepted_on r frames ledger e more))
alone_next frames (Some r) e more ledger h rest = rest ledger
alone_next frames None (Slice id n) more ledger h rest = rest ledger
alone_next frames None (Stop id) more ledger h rest = rest (map (without_live id) ledger)
alone_next frames None (Admit id start) more ledger h rest =
    let after = ledger ++ new_entry id start.terms.pages ∷ [] in
    let life : Life = record { id = id; start = start; own = own_events id (accepted_from frames after more) } in
    let own = own_taken frames (charge_of start.terms.pages) id start.terms.pages more after true (known_new ledger id start.terms.pages) (live_new ledger id start.terms.pages) in
    All-cons (IsAlone frames) life (lives_of (accepted_from frames after more)) (alone_of frames life (frames_fit frames ledger id start h) (taken_admit (charge_of start.terms.pages) id start (map (own_call id) life.own) (admitted_alone frames ledger id start h) own)) (rest after)

all_alone : (frames : ℕ) (calls : List Call) → AllAlone frames calls
unfolding decisions
all_alone frames [] ledger = All-nil (IsAlone frames)
all_alone frames (e ∷ more) ledger = alone_next frames (call_refusal frames ledger e) e more ledger refl (all_alone frames more)

pub accepted_alone : AcceptedAlone
accepted_alone s = all_alone s.frames s.calls []

texts_alone : (frames : ℕ) (ls : List Life) → All (IsAlone frames) ls → flat_map (λ (life : Life). session_text (session_alone life)) ls ≡ life_texts ls
texts_alone frames [] h = refl
texts_alone frames (l ∷ ls) h = rw (text_alone frames l (All-head (IsAlone frames) l ls h), texts_alone frames ls (All-tail (IsAlone frames) l ls h)) refl

pub report_in_parts : ReportInParts
unfolding session_text
report_in_parts s = ap (λ l. refused_texts (refusals s) ++ l) (sym (texts_alone s.frames (lives s) (accepted_alone s)))

-- ---- the events of a script

append_one : {A : Type 0} (xs : List A) (y : A) (zs : List A) → (xs ++ y ∷ []) ++ zs ≡ xs ++ y ∷ zs
append_one [] y zs = refl
append_one (x ∷ xs) y zs = ap (λ l. x ∷ l) (append_one xs y zs)

filter_if : {A : Type 0} (b : Bool) (x : A) (xs ys : List A) → (if b then x ∷ (xs ++ ys) else xs ++ ys) ≡ (if b then x ∷ xs else xs) ++ ys
filter_if true x xs ys = refl
filter_if false x xs ys = refl

filter_append : {A : Type 0} (p : A → Bool) (xs ys : List A) → filter p (xs ++ ys) ≡ filter p xs ++ filter p ys
filter_append p [] ys = refl
filter_append p (x ∷ xs) ys = rw (filter_append p xs ys) (filter_if (p x) x (filter p xs) (filter p ys))

live_of_known : (a b : Bool) → (a && b) ≡ true → b ≡ true
live_of_known true b e = e
live_of_known false b e = absurd cc

both_or : (a b c d : Bool) → (a ≡ true → c ≡ true) → (b ≡ true → d ≡ true) → (a || b) ≡ true → (c || d) ≡ true
both_or true b c d f g h = rw (f refl) refl
both_or false b c d f g h = rw (g h) (or_true c)

-- A live number is known.
live_is_known : (id : ℕ) (ledger : List LedgerEntry) → list_any (has_live_id id) ledger ≡ true → list_any (has_id id) ledger ≡ true
live_is_known id [] h = h
live_is_known id (e ∷ es) h =
    both_or (has_live_id id e) (list_any (has_live_id id) es) (has_id id e) (list_any (has_id id) es) (live_of_known e.live (e.id == id)) (live_is_known id es) h

-- The events that were accepted, by the decisions on them.
abbrev kept_events : List Event → List Decision → List Event
kept_events events ds = map (λ p. p.0) (filter (λ p. is_none p.1.refusal) (zip events ds))

-- The events that name a tenant.
abbrev own_script : ℕ → List Event → List Event
own_script id events = filter (λ e. id == number_in e) events

own_case : (id : ℕ) (a b : Bool) (e : Event) (d : Decision) (xs : List (Event × Bool)) (ys : List (Event × Decision)) → (id == number_in e) ≡ b → map (λ p. p.0) xs ≡ own_script id (map (λ p. p.0) ys)
    → map (λ p. p.0) (if a && b then (e, a && b) ∷ xs else xs) ≡ own_script id (map (λ p. p.0) (if a then (e, d) ∷ ys else ys))
own_case id false b e d xs ys same h = h
own_case id true true e d xs ys same h = rw (same, h) refl
own_case id true false e d xs ys same h = rw same h

own_kept : (id : ℕ) (events : List Event) (ds : List Decision) → chosen (own_mask id events ds) events ≡ own_script id (kept_events events ds)
own_kept id [] ds = refl
own_kept id (e ∷ es) [] = refl
own_kept id (e ∷ es) (d ∷ ds) =
    own_case id (is_none d.refusal) (id == number_in e) e d (filter (λ p. p.1) (zip es (own_mask id es ds))) (filter (λ p. is_none p.1.refusal) (zip es ds)) refl (own_kept id es ds)

flat_same : {A B : Type 0} (f g : A → List B) → ((x : A) → f x ≡ g x) → (xs : List A) → flat_map f xs ≡ flat_map g xs
flat_same f g same [] = refl
flat_same f g same (x ∷ xs) = rw (same x, flat_same f g same xs) refl

-- The events that were accepted, from a ledger on.
abbrev kept_from : ℕ → List (List ℕ) → List LedgerEntry → List Event → List Event
kept_from frames files ledger events = kept_events events (decisions frames ledger (calls_of files events))

-- The same after the decision on the first event.
abbrev kept_on : Option Refusal → ℕ → List (List ℕ) → List LedgerEntry → Event → List Event → List Event
kept_on r frames files ledger e more =
    kept_events (e ∷ more)
    ((let d : Decision = record { call = call_of files e; refusal = r } in d) ∷ decisions frames (ledger_cases r ledger (call_of files e)) (calls_of files more))

kept_calls_on : (r : Option Refusal) (frames : ℕ) (files : List (List ℕ)) (ledger : List LedgerEntry) (e : Event) (more : List Event)
    → ((l : List LedgerEntry) → calls_of files (kept_from frames files l more) ≡ accepted_from frames l (calls_of files more))
    → calls_of files (kept_on r frames files ledger e more) ≡ accepted_on r frames ledger (call_of files e) (calls_of files more)
kept_calls_on (Some r) frames files ledger e more rest = rest ledger
kept_calls_on None frames files ledger e more rest = ap (λ l. call_of files e ∷ l) (rest (ledger_cases None ledger (call_of files e)))

-- Their calls are the accepted calls.
kept_calls : (frames : ℕ) (files : List (List ℕ)) (events : List Event) (ledger : List LedgerEntry)
    → calls_of files (kept_from frames files ledger events) ≡ accepted_from frames ledger (calls_of files events)
unfolding decisions
kept_calls frames files [] ledger = refl
kept_calls frames files (e ∷ more) ledger =
    kept_calls_on (call_refusal frames ledger (call_of files e)) frames files ledger e more (kept_calls frames files more)

module _ (frames : ℕ) (files : List (List ℕ)) where
  -- A known tenant's own script makes its own calls.
  module _ (id : ℕ) where
    abbrev OwnCalls : List Event → Type 0
    OwnCalls chosen = calls_of files (own_script id chosen) ≡ map (own_call id) (own_events id (calls_of files chosen))

    own_slice : (b : Bool) (k n : ℕ) (chosen : List Event) → (id == k) ≡ b → OwnCalls chosen
        → calls_of files (if b then event.Slice k n ∷ own_script id chosen else own_script id chosen) ≡ map (own_call id) ((if b then OwnSlice n ∷ [] else []) ++ own_events id (calls_of files chosen))
    own_slice true k n chosen same h = rw (← eqb-true id k same, h) refl
    own_slice false k n chosen same h = h

    own_stop : (b : Bool) (k : ℕ) (chosen : List Event) → (id == k) ≡ b → OwnCalls chosen
        → calls_of files (if b then event.Stop k ∷ own_script id chosen else own_script id chosen) ≡ map (own_call id) ((if b then OwnStop ∷ [] else []) ++ own_events id (calls_of files chosen))
    own_stop true k chosen same h = rw (← eqb-true id k same, h) refl
    own_stop false k chosen same h = h

    own_calls_next : (r : Option Refusal) (e : Event) (more : List Event) (ledger : List LedgerEntry) → call_refusal frames ledger (call_of files e) ≡ r → list_any (has_id id) ledger ≡ true
        → ((l : List LedgerEntry) → list_any (has_id id) l ≡ true → OwnCalls (kept_from frames files l more)) → OwnCalls (kept_on r frames files ledger e more)
    own_calls_next (Some r) e more ledger h known rest = rest ledger known
    own_calls_next None (event.Admit k image input terms) more ledger h known rest =
        let after = ledger ++ new_entry k terms.pages ∷ [] in
        let unknown = was_unknown frames ledger k (start_at files image input terms) h in
        let differs : (id == k) ≡ false =
        ne_eqb id k (λ e. let z : list_any (has_id id) ledger ≡ false = ap (λ (j : ℕ). list_any (has_id j) ledger) e ∙ unknown in let no : true ≡ false = sym known ∙ z in absurd cc) in
        rw differs (rest after (known_after frames 0 id 0 ledger (new_entry k terms.pages) known))
    own_calls_next None (event.Slice k n) more ledger h known rest = own_slice (id == k) k n (kept_from frames files ledger more) refl (rest ledger known)
    own_calls_next None (event.Stop k) more ledger h known rest =
        own_stop (id == k) k (kept_from frames files (map (without_live k) ledger) more) refl (rest (map (without_live k) ledger) (still_known id k ledger ∙ known))

    own_calls : (events : List Event) (ledger : List LedgerEntry) → list_any (has_id id) ledger ≡ true → OwnCalls (kept_from frames files ledger events)
    unfolding decisions
    own_calls [] ledger known = refl
    own_calls (e ∷ more) ledger known = own_calls_next (call_refusal frames ledger (call_of files e)) e more ledger refl known (own_calls more)

  -- Each event that was accepted before names a tenant that the ledger knows.
  abbrev AreKnown : List Event → List LedgerEntry → Type 0
  AreKnown before ledger = (id : ℕ) → list_any (has_id id) ledger ≡ false → own_script id before ≡ []

  -- The session of a tenant's own events among some.
  abbrev among : List Event → Life → Session
  among events life = session_of (charge_of life.start.terms.pages) files (own_script life.id events)

  -- The reports of the tenants' own scripts are those of their own sessions.
  abbrev AreAlike : List Event → List Event → Type 0
  AreAlike all chosen =
      flat_map (λ life. session_text (among all life)) (lives_of (calls_of files chosen)) ≡ flat_map (λ (life : Life). session_text (session_alone life)) (lives_of (calls_of files chosen))

  abbrev InScripts : List Event → List Event → Type 0
  InScripts before chosen = AreAlike (before ++ chosen) chosen

  one_more : (before : List Event) (e : Event) (chosen : List Event) → InScripts (before ++ e ∷ []) chosen → AreAlike (before ++ e ∷ chosen) chosen
  one_more before e chosen h = rw (append_one before e chosen) at h

  still_none : (id : ℕ) (before : List Event) (e : Event) → own_script id before ≡ [] → (id == number_in e) ≡ false → own_script id (before ++ e ∷ []) ≡ []
  still_none id before e none differs = filter_append (λ d. id == number_in d) before (e ∷ []) ∙ rw (none, differs) refl

  other_number : (id k : ℕ) (ledger : List LedgerEntry) → list_any (has_id k) ledger ≡ true → list_any (has_id id) ledger ≡ false → (id == k) ≡ false
  other_number id k ledger known unknown =
      ne_eqb id k (λ e. let z : list_any (has_id id) ledger ≡ true = ap (λ (j : ℕ). list_any (has_id j) ledger) e ∙ known in let no : true ≡ false = sym z ∙ unknown in absurd cc)

  scripts_next : (r : Option Refusal) (e : Event) (more : List Event) (ledger : List LedgerEntry) (before : List Event) → call_refusal frames ledger (call_of files e) ≡ r → AreKnown before ledger
      → ((l : List LedgerEntry) (b : List Event) → AreKnown b l → InScripts b (kept_from frames files l more)) → InScripts before (kept_on r frames files ledger e more)
  unfolding call_refusal
  scripts_next (Some r) e more ledger before h known rest = rest ledger before known
  scripts_next None (event.Slice k n) more ledger before h known rest =
      let there = live_is_known k ledger (live_there _ h) in
      one_more before (event.Slice k n) (kept_from frames files ledger more)
      (rest ledger (before ++ event.Slice k n ∷ []) (λ id none. still_none id before (event.Slice k n) (known id none) (other_number id k ledger there none)))
  scripts_next None (event.Stop k) more ledger before h known rest =
      let there = live_is_known k ledger (live_there _ h) in
      let after = map (without_live k) ledger in
      one_more before (event.Stop k) (kept_from frames files after more)
      (rest after (before ++ event.Stop k ∷ [])
      (λ id none. let was : list_any (has_id id) ledger ≡ false = sym (still_known id k ledger) ∙ none in
      still_none id before (event.Stop k) (known id was) (other_number id k ledger there was)))
  scripts_next None (event.Admit k image input terms) more ledger before h known rest =
      let e = event.Admit k image input terms in
      let start = start_at files image input terms in
      let after = ledger ++ new_entry k terms.pages ∷ [] in
      let chosen = kept_from frames files after more in
      let none_before : own_script k before ≡ [] = known k (was_unknown frames ledger k start h) in
      let script : own_script k (before ++ e ∷ chosen) ≡ e ∷ own_script k chosen =
      filter_append (λ d. k == number_in d) before (e ∷ chosen) ∙ rw (none_before, eq-eqb k k refl) refl in
      let calls : calls_of files (own_script k (before ++ e ∷ chosen)) ≡ Admit k start ∷ map (own_call k) (own_events k (calls_of files chosen)) =
      ap (calls_of files) script ∙ ap (λ l. Admit k start ∷ l) (own_calls k more after (known_new ledger k terms.pages)) in
      let more_texts = one_more before e chosen
      (rest after (before ++ e ∷ [])
      (λ id none. let split = any_append (has_id id) ledger (new_entry k terms.pages ∷ []) in
      let both = sym split ∙ none in
      still_none id before e (known id (or_left _ _ both)) (other_number id k after (known_new ledger k terms.pages) none))) in
      let life : Life = record { id = k; start = start; own = own_events k (calls_of files chosen) } in
      ap (λ (cs : List Call). session_text (let s : Session = record { frames = charge_of terms.pages; calls = cs } in s) ++ flat_map (λ l. session_text (among (before ++ e ∷ chosen) l)) (lives_of (calls_of files chosen))) calls
      ∙ ap (λ t. session_text (session_alone life) ++ t) more_texts

  in_scripts : (events : List Event) (ledger : List LedgerEntry) (before : List Event) → AreKnown before ledger → InScripts before (kept_from frames files ledger events)
  unfolding decisions
  in_scripts [] ledger before known = refl
  in_scripts (e ∷ more) ledger before known = scripts_next (call_refusal frames ledger (call_of files e)) e more ledger before refl known (in_scripts more)

pub script_in_parts : ScriptInParts
script_in_parts frames files events =
    let s = session_of frames files events in
    let ds = decisions frames [] (calls_of files events) in
    let all = lives_of (calls_of files (kept_events events ds)) in
    let alike =
    flat_same (λ life. session_text (script_alone frames files events life)) (λ life. session_text (among frames files (kept_events events ds) life))
    (λ life. ap (λ (es : List Event). session_text (session_of (charge_of life.start.terms.pages) files es)) (own_kept life.id events ds)) all
    ∙ in_scripts frames files events [] [] (λ id none. refl) in
    report_in_parts s
    ∙ ap (λ t. refused_texts (refusals s) ++ t) (rw (kept_calls frames files events []) at (sym alike))

-- ---- the text of a script

pub texts_in_parts : LinesMayBeLeftOut → TextsInParts
texts_in_parts law input events id h = law (length input.files) input.script events (mask_of input.frames input.files events id) h
