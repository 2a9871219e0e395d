-- The names of the checks of a pointer.
use Rattle.std.specs.Prelude.{ℕ, List, codes}
use Rattle.scudo_heap.specs.declared.abort.HeapAbort.{HeapAbort}
use Rattle.scudo_heap.specs.declared.abort.HeapAbort.TheVariants.{Misaligned, Unmapped}
use Rattle.scudo_heap.specs.declared.abort.HeapAbort.TheVariants.{HeaderCorrupt, InvalidState}
use Rattle.scudo_heap.specs.declared.abort.HeapAbort.TheVariants.{NotABlock, AlreadyFree}

-- The name of an abort.
abbrev pub abort_name : HeapAbort → List ℕ
abort_name Misaligned = codes "Misaligned"
abort_name Unmapped = codes "Unmapped"
abort_name HeaderCorrupt = codes "HeaderCorrupt"
abort_name InvalidState = codes "InvalidState"
abort_name NotABlock = codes "NotABlock"
abort_name AlreadyFree = codes "AlreadyFree"
