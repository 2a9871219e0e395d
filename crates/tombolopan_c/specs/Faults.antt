-- The codes of faults, and what is reported of one.
use Rattle.std.specs.Prelude.{ℕ, Option, Some, None, if◌then◌else◌}
use Rattle.mte_tags.specs.declared.fault.FaultKind.{FaultKind}
use Rattle.mte_tags.specs.declared.fault.FaultKind.TheVariants as kind
use Rattle.mte_tags.specs.declared.fault.MemFault.{MemFault}
use Rattle.tombolopan_c.specs.declared.codes.TheConstants.{OK, FAULT, TRANSLATION, PERMISSION}
use Rattle.tombolopan_c.specs.declared.codes.TheConstants.{TAG_CHECK, ALIGNMENT, SP_ALIGNMENT}
use Rattle.tombolopan_c.specs.declared.codes.TheConstants.{PC_ALIGNMENT}
use Rattle.tombolopan_c.specs.declared.faults.FaultReport.{FaultReport}

-- The number of a kind of fault.
abbrev pub kind_code : FaultKind → ℕ
kind_code kind.Translation = TRANSLATION
kind_code kind.Permission = PERMISSION
kind_code kind.TagCheck = TAG_CHECK
kind_code kind.Alignment = ALIGNMENT
kind_code kind.SpAlignment = SP_ALIGNMENT
kind_code kind.PcAlignment = PC_ALIGNMENT

-- The report where there is no fault.
abbrev pub no_fault : FaultReport
no_fault = record { addr = 0; kind = 0; write = 0; ptr_tag = 0; mem_tag = 0 }

-- A fault in numbers.
abbrev pub report_of : MemFault → FaultReport
report_of f =
    record {
      addr = f.addr;
      kind = kind_code f.kind;
      write = if f.write then 1 else 0;
      ptr_tag = f.ptr_tag;
      mem_tag = f.mem_tag;
    }

-- A fault in numbers, if there is one.
abbrev pub fault_report : Option MemFault → FaultReport
fault_report None = no_fault
fault_report (Some f) = report_of f

-- The code of a call that may fault.
abbrev pub fault_code : Option MemFault → ℕ
fault_code None = OK
fault_code (Some f) = FAULT
