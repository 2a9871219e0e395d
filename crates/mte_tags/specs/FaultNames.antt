-- The names of the kinds of fault.
use Rattle.std.specs.Prelude.{ℕ, List, codes}
use Rattle.mte_tags.specs.declared.fault.FaultKind.{FaultKind}
use Rattle.mte_tags.specs.declared.fault.FaultKind.TheVariants.{Translation, Permission, TagCheck}
use Rattle.mte_tags.specs.declared.fault.FaultKind.TheVariants.{Alignment, SpAlignment}
use Rattle.mte_tags.specs.declared.fault.FaultKind.TheVariants.{PcAlignment}

-- The name of a kind of fault, as reports have it.
abbrev pub kind_name : FaultKind → List ℕ
kind_name Translation = codes "Translation"
kind_name Permission = codes "Permission"
kind_name TagCheck = codes "TagCheck"
kind_name Alignment = codes "Alignment"
kind_name SpAlignment = codes "SpAlignment"
kind_name PcAlignment = codes "PcAlignment"
