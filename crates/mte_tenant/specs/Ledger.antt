-- The ledger of admissions: which events are accepted, and why one is refused. It has numbers,
-- reservations and stops, and no machine: what a tenant does cannot change it.
use Rattle.std.specs.Prelude.{ℕ, ◌+◌, ◌-◌, ◌*◌, ◌==◌, nat_lt, nat_le, ◌&&◌, ◌||◌, Bool, true}
use Rattle.std.specs.Prelude.{false, List, [], ◌∷◌, ◌++◌, map, sum_by, count_by, Option, Some, None}
use Rattle.std.specs.Prelude.{option_map, if◌then◌else◌}
use Rattle.std.specs.List.{list_any}
use Rattle.common.specs.declared.limits.TheConstants.{MAX_PAGES, MAX_OUTPUT}
use Rattle.common.specs.declared.ranges.TheConstants.{STACK_PAGES}
use Rattle.mte_elf.specs.Images.{refusal_of, pages_of}
use Rattle.mte_tenant.specs.declared.admission.TheConstants.{MAX_LIVE}
use Rattle.mte_tenant.specs.declared.admission.LedgerFacts.{LedgerFacts}
use Rattle.mte_tenant.specs.declared.admission.AdmitError.{AdmitError}
use Rattle.mte_tenant.specs.declared.admission.AdmitError.TheVariants.{Duplicate, BadReservation}
use Rattle.mte_tenant.specs.declared.admission.AdmitError.TheVariants.{Image, ReservationTooSmall}
use Rattle.mte_tenant.specs.declared.admission.AdmitError.TheVariants.{NoFrames, TooManyLive}
use Rattle.mte_tenant.specs.declared.refusal.Refusal.{Refusal}
use Rattle.mte_tenant.specs.declared.refusal.Refusal.TheVariants as refusal
use Rattle.tenant_terms.specs.declared.Terms.{Terms}
use Rattle.mte_tenant.specs.Machines.{Start}

-- The calls of a host: the admission of a tenant with a number, a slice of a tenant with
-- its number of steps, the stop of a tenant.
pub data Call : Type 0 where
  Admit : ℕ → Start → Call
  Slice : ℕ → ℕ → Call
  Stop : ℕ → Call

-- An accepted admission: its number, its reservation, and whether it was not stopped yet.
pub record LedgerEntry : Type 0 where
  pub id : ℕ
  pub pages : ℕ
  pub live : Bool

-- A reservation's pages, and one more than them for its tables.
abbrev pub charge_of : ℕ → ℕ
charge_of pages = 2 * pages + 1

-- The frames that an entry is charged: none once it was stopped.
abbrev pub charge_of_entry : LedgerEntry → ℕ
charge_of_entry e = if e.live then charge_of e.pages else 0

-- Whether an entry was not stopped yet.
abbrev pub is_live : LedgerEntry → Bool
is_live e = e.live

-- The numbers of entries.
abbrev pub numbers_of : List LedgerEntry → List ℕ
numbers_of es = map (λ e. e.id) es

-- Whether an entry has the number.
abbrev pub has_id : ℕ → LedgerEntry → Bool
has_id id e = e.id == id

-- Whether an entry has the number and was not stopped yet.
abbrev pub has_live_id : ℕ → LedgerEntry → Bool
has_live_id id e = e.live && (e.id == id)

-- ---- refusals

-- The first refusal of a list of tests.
abbrev pub first_of : List (Option AdmitError) → Option AdmitError
first_of [] = None
first_of (Some e ∷ more) = Some e
first_of (None ∷ more) = first_of more

-- A refusal where a test holds.
abbrev pub refuse_if : Bool → AdmitError → Option AdmitError
refuse_if test e = if test then Some e else None

-- A reservation has 1 to MAX_PAGES pages, and the room at most MAX_OUTPUT bytes.
abbrev pub is_bad : Terms → Bool
is_bad t = (t.pages == 0) || nat_lt MAX_PAGES t.pages || nat_lt MAX_OUTPUT t.room

-- The facts of the ledger of a host of `frames` frames for an admission with a number.
abbrev pub facts_of : ℕ → List LedgerEntry → ℕ → LedgerFacts
facts_of frames ledger id = record {
  known = list_any (has_id id) ledger;
  left = frames - sum_by charge_of_entry ledger;
  live = count_by is_live ledger;
}

-- The tests of an admission, in this order, each with its refusal.
abbrev pub admission_tests : LedgerFacts → Start → List (Option AdmitError)
admission_tests facts start =
    refuse_if facts.known Duplicate
    ∷ refuse_if (is_bad start.terms) BadReservation
    ∷ option_map Image (refusal_of start.image)
    ∷ refuse_if (nat_lt start.terms.pages (pages_of start.image + STACK_PAGES)) ReservationTooSmall
    ∷ refuse_if (nat_lt facts.left (charge_of start.terms.pages)) NoFrames
    ∷ refuse_if (nat_le MAX_LIVE facts.live) TooManyLive
    ∷ []

-- Why an admission to a host of `frames` frames is refused, if it is.
unfoldable pub admission_refusal : ℕ → List LedgerEntry → ℕ → Start → Option AdmitError
admission_refusal frames ledger id start =
    first_of (admission_tests (facts_of frames ledger id) start)

-- NotLive, unless there is a live tenant.
abbrev pub unless_live : Bool → Option Refusal
unless_live live = if live then None else Some refusal.NotLive

-- Why a call is refused, if it is.
unfoldable pub call_refusal : ℕ → List LedgerEntry → Call → Option Refusal
call_refusal frames ledger (Admit id start) =
    option_map refusal.Admit (admission_refusal frames ledger id start)
call_refusal frames ledger (Slice id steps) = unless_live (list_any (has_live_id id) ledger)
call_refusal frames ledger (Stop id) = unless_live (list_any (has_live_id id) ledger)

-- ---- what an accepted call makes of the ledger

-- An entry, stopped where it has the number.
abbrev pub without_live : ℕ → LedgerEntry → LedgerEntry
without_live id e = if e.id == id then record e { live = false } else e

-- The entry of an accepted admission.
abbrev pub new_entry : ℕ → ℕ → LedgerEntry
new_entry id pages = record { id = id; pages = pages; live = true }

-- The ledger after an accepted call.
abbrev pub ledger_after : List LedgerEntry → Call → List LedgerEntry
ledger_after ledger (Admit id start) = ledger ++ new_entry id start.terms.pages ∷ []
ledger_after ledger (Slice id steps) = ledger
ledger_after ledger (Stop id) = map (without_live id) ledger

abbrev pub ledger_cases : Option Refusal → List LedgerEntry → Call → List LedgerEntry
ledger_cases (Some r) ledger e = ledger
ledger_cases None ledger e = ledger_after ledger e
