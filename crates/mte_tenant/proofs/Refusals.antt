-- What an accepted admission has passed.
use Rattle.std.proofs.Common.{◌≡◌, ℕ, ◌+◌, ◌<◌, ◌≤◌, ◌==◌, nat_lt, nat_le, Bool, true, false, Option, Some, None, List, [], ◌∷◌, refl, arith}
use Rattle.std.specs.Prelude.{option_map}
use Rattle.std.proofs.lemmas.Bool.{ltb-false, leb-false, eqb-false}
use Rattle.common.specs.declared.limits.TheConstants.{MAX_PAGES, MAX_OUTPUT}
use Rattle.common.specs.declared.ranges.TheConstants.{STACK_PAGES}
use Rattle.mte_elf.specs.Images.{refusal_of, pages_of}
use Rattle.mte_elf.specs.declared.error.ElfError.{ElfError}
use Rattle.mte_elf.proofs.LoadingLemmas.{or_false}
use Rattle.mte_tenant.specs.declared.admission.TheConstants.{MAX_LIVE}
use Rattle.mte_tenant.specs.declared.admission.LedgerFacts.{LedgerFacts}
use Rattle.mte_tenant.specs.declared.admission.AdmitError.{AdmitError}
use Rattle.mte_tenant.specs.declared.admission.AdmitError.TheVariants.{Duplicate, BadReservation, Image, ReservationTooSmall, NoFrames, TooManyLive}
use Rattle.mte_tenant.specs.Machines.{Start}
use Rattle.mte_tenant.specs.Ledger.{LedgerEntry, first_of, refuse_if, is_bad, charge_of, facts_of, admission_tests, admission_refusal}

-- No test of a list refuses.
abbrev NoneRefuses : List (Option AdmitError) → Type 0
NoneRefuses [] = Unit {0}
NoneRefuses (o ∷ more) = (o ≡ None) × NoneRefuses more

none-refuses : (tests : List (Option AdmitError)) → first_of tests ≡ None → NoneRefuses tests
none-refuses [] h = tt
none-refuses (Some e ∷ more) h = absurd cc
none-refuses (None ∷ more) h = (refl, none-refuses more h)

not-refused : (test : Bool) (e : AdmitError) → refuse_if test e ≡ None → test ≡ false
not-refused true e h = absurd cc
not-refused false e h = refl

is-image : (o : Option ElfError) → option_map Image o ≡ None → o ≡ None
is-image None h = refl
is-image (Some e) h = absurd cc

some-pages : (n : ℕ) → (n == 0) ≡ false → 0 < n
some-pages n h = let apart = eqb-false n 0 h in omega (arith, apart)

pub record EachPassed (facts : LedgerFacts) (t : Start) : Type 0 where
  pub image : refusal_of t.image ≡ None
  pub room : pages_of t.image + STACK_PAGES ≤ t.terms.pages
  pub fresh : facts.known ≡ false
  pub good : is_bad t.terms ≡ false
  pub some : 0 < t.terms.pages
  pub most : t.terms.pages ≤ MAX_PAGES
  pub frames : charge_of t.terms.pages ≤ facts.left
  pub few : facts.live < MAX_LIVE

pub each_passed : (facts : LedgerFacts) (t : Start) → first_of (admission_tests facts t) ≡ None → EachPassed facts t
each_passed facts t h =
    let each : NoneRefuses (admission_tests facts t) = none-refuses (admission_tests facts t) h in
    let good = not-refused (is_bad t.terms) BadReservation assumption in
    let bad = or_false _ (nat_lt MAX_OUTPUT t.terms.room) good in
    let big = or_false (t.terms.pages == 0) (nat_lt MAX_PAGES t.terms.pages) bad.0 in
    let small : nat_lt t.terms.pages (pages_of t.image + STACK_PAGES) ≡ false = not-refused _ ReservationTooSmall assumption in
    let scarce : nat_lt facts.left (charge_of t.terms.pages) ≡ false = not-refused _ NoFrames assumption in
    let many : nat_le MAX_LIVE facts.live ≡ false = not-refused _ TooManyLive assumption in
    record {
      image = is-image (refusal_of t.image) assumption;
      room = ltb-false t.terms.pages (pages_of t.image + STACK_PAGES) small;
      fresh = not-refused facts.known Duplicate assumption;
      good = good;
      some = some-pages t.terms.pages big.0;
      most = ltb-false MAX_PAGES t.terms.pages big.1;
      frames = ltb-false facts.left (charge_of t.terms.pages) scarce;
      few = leb-false MAX_LIVE facts.live many;
    }

-- Of these what laws about first machines need.
pub record Passed (t : Start) : Type 0 where
  pub image : refusal_of t.image ≡ None
  pub room : pages_of t.image + STACK_PAGES ≤ t.terms.pages
  pub most : t.terms.pages ≤ MAX_PAGES

pub passed : (frames : ℕ) (ledger : List LedgerEntry) (id : ℕ) (t : Start) → admission_refusal frames ledger id t ≡ None → Passed t
unfolding admission_refusal
passed frames ledger id t h =
    let each = each_passed (facts_of frames ledger id) t h in
    record { image = each.image; room = each.room; most = each.most }
