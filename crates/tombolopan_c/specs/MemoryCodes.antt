-- The codes of the calls that map pages, load bytes and store tags.
use Rattle.std.specs.Prelude.{ℕ, ◌&&◌, Bool, Option, is_some, nat_lt}
use Rattle.std.specs.Prelude.{◌/◌, true, List, [], ◌∷◌, if◌then◌else◌}
use Rattle.a64_bits.specs.Addresses.{plain}
use Rattle.mte_tags.specs.Accesses.{addresses}
use Rattle.mte_tags.specs.Memory.{Memory, page_at}
use Rattle.mte_tags.specs.declared.fault.MemFault.{MemFault}
use Rattle.tombolopan_c.specs.Faults.{no_fault, fault_report, fault_code}
use Rattle.tombolopan_c.specs.declared.codes.TheConstants.{OK, NOT_MAPPED, ALREADY_MAPPED, NO_ROOM}
use Rattle.tombolopan_c.specs.declared.codes.TheConstants.{BAD_ARGUMENT, PAGES}
use Rattle.tombolopan_c.specs.declared.faults.FaultReport.{FaultReport}

-- a store of tags, whose tag is tested first
abbrev pub tags_code : ℕ → Option MemFault → ℕ
tags_code t o = if nat_lt t 16 then fault_code o else BAD_ARGUMENT

-- The fault of a store of tags; a tag of 16 or more is a bad argument, and no fault.
abbrev pub tags_report : ℕ → Option MemFault → FaultReport
tags_report t o = if nat_lt t 16 then fault_report o else no_fault

-- a page q of these attributes is to be mapped in m, which may have room
abbrev pub map_code : Memory → Bool → ℕ → ℕ → ℕ
map_code m room q attrs =
    if nat_lt q PAGES && nat_lt attrs 16
    then (if is_some (page_at m q) then ALREADY_MAPPED else (if room then OK else NO_ROOM))
    else BAD_ARGUMENT

-- The code of an unmapping.
abbrev pub unmap_code : Memory → ℕ → ℕ
unmap_code m q = if is_some (page_at m q) then OK else NOT_MAPPED

-- whether the page of each plain address is mapped
abbrev pub all_mapped : Memory → List ℕ → Bool
all_mapped m [] = true
all_mapped m (a ∷ more) = is_some (page_at m (a / 4096)) && all_mapped m more

-- n bytes are to be loaded at an address
abbrev pub load_code : Memory → ℕ → ℕ → ℕ
load_code m a n = if all_mapped m (addresses (plain a) n) then OK else NOT_MAPPED
