-- How far a session has come: what its host has, and the events that were refused. Only the
-- function that makes the calls cites it.
use Rattle.std.specs.Prelude.{ℕ, ◌+◌, List, [], ◌∷◌, ◌++◌, map, Option, Some, None}
use Rattle.std.specs.List.{concat}
use Rattle.mte_tenant.specs.declared.refusal.Refusal.{Refusal}
use Rattle.mte_tenant.specs.declared.refusal.Refused.{Refused}
use Rattle.mte_sched.specs.declared.tenant.Tenant as code
use Rattle.mte_tenant.specs.Ledger.{Call, call_refusal}
use Rattle.mte_sched.specs.Contents.{Content, ledger_of, after_call}
use Rattle.mte_sched.specs.Tenants.{record_in}
use Rattle.mte_session.specs.Report.{record_text}
use Rattle.mte_session.specs.Sessions.{refused_texts, tenant_texts}

-- A session under way: the content of its host, and the events that were refused.
pub record Progress : Type 0 where
  pub content : Content
  pub refused : List Refused

-- Why a call is refused by a host with this content, if it is.
abbrev pub refusal_in : Content → Call → Option Refusal
refusal_in c e = call_refusal c.frames (ledger_of c) e

abbrev pub play_cases : Option Refusal → Progress → Call → ℕ → Progress
play_cases (Some r) p e n =
    record p { refused = p.refused ++ (record { event = n; refusal = r }) ∷ [] }
play_cases None p e n = record p { content = after_call p.content e }

-- One call, the n-th, after others.
unfoldable pub after_event : Progress → Call → ℕ → Progress
after_event p e n = play_cases (refusal_in p.content e) p e n

-- Calls in order, the first of them the n-th.
unfoldable pub run_all : Progress → List Call → ℕ → Progress
run_all p [] n = p
run_all p (e ∷ more) n = run_all (after_event p e n) more (n + 1)

-- The report of a session under way.
abbrev pub progress_text : Progress → List ℕ
progress_text p = refused_texts p.refused ++ tenant_texts p.content.tenants

-- The lines of a host's tenants.
abbrev pub record_texts : List code.Tenant → List ℕ
record_texts ts = concat (map (λ t. record_text (record_in t)) ts)
