-- The names of refusals in a report.
use Rattle.std.specs.Prelude.{ℕ, List, codes}
use Rattle.mte_elf.specs.ErrorNames.{image_name}
use Rattle.mte_tenant.specs.declared.admission.AdmitError.{AdmitError}
use Rattle.mte_tenant.specs.declared.admission.AdmitError.TheVariants.{Duplicate, BadReservation}
use Rattle.mte_tenant.specs.declared.admission.AdmitError.TheVariants.{Image, ReservationTooSmall}
use Rattle.mte_tenant.specs.declared.admission.AdmitError.TheVariants.{NoFrames, TooManyLive}
use Rattle.mte_tenant.specs.declared.refusal.Refusal.{Refusal}
use Rattle.mte_tenant.specs.declared.refusal.Refusal.TheVariants as refusal

-- An image's refusal has the loader's name for it.
abbrev pub admit_name : AdmitError → List ℕ
admit_name Duplicate = codes "Duplicate"
admit_name BadReservation = codes "BadReservation"
admit_name (Image e) = image_name e
admit_name ReservationTooSmall = codes "ReservationTooSmall"
admit_name NoFrames = codes "NoFrames"
admit_name TooManyLive = codes "TooManyLive"

-- The name of the refusal of a slice or a stop.
abbrev pub not_live_name : List ℕ
not_live_name = codes "NotLive"

-- The name of a refusal.
abbrev pub refusal_name : Refusal → List ℕ
refusal_name (refusal.Admit e) = admit_name e
refusal_name refusal.NotLive = not_live_name
