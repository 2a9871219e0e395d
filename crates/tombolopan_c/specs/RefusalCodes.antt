-- Written by tools/border.py from tools/border_to_c/codes.toml. Do not edit.
-- The numbers of refusals: each is that of the constant of its name.
use Rattle.std.specs.Prelude.{ℕ}
use Rattle.mte_elf.specs.declared.error.ElfError.{ElfError}
use Rattle.mte_elf.specs.declared.error.ElfError.TheVariants as image
use Rattle.mte_tenant.specs.declared.admission.AdmitError.{AdmitError}
use Rattle.mte_tenant.specs.declared.admission.AdmitError.TheVariants as refusal
use Rattle.scudo_heap.specs.declared.abort.HeapAbort.{HeapAbort}
use Rattle.scudo_heap.specs.declared.abort.HeapAbort.TheVariants as abort
use Rattle.mte_script.specs.declared.error.ScriptFault.{ScriptFault}
use Rattle.mte_script.specs.declared.error.ScriptFault.TheVariants as script
use Rattle.tombolopan_c.specs.declared.codes.TheConstants as code

-- The number of a refusal of an image.
abbrev pub image_code : ElfError → ℕ
image_code image.Short = code.SHORT
image_code image.NotElf64 = code.NOT_ELF64
image_code image.NotAarch64 = code.NOT_AARCH64
image_code image.NotExec = code.NOT_EXEC
image_code image.BadHeaders = code.BAD_HEADERS
image_code image.Interpreter = code.INTERPRETER
image_code image.SegmentRange = code.SEGMENT_RANGE
image_code image.Overlap = code.OVERLAP
image_code image.NoEntry = code.NO_ENTRY

-- The number of a refusal of an admission: for an image it is the image's.
abbrev pub refusal_code : AdmitError → ℕ
refusal_code refusal.Duplicate = code.DUPLICATE
refusal_code refusal.BadReservation = code.BAD_RESERVATION
refusal_code (refusal.Image e) = image_code e
refusal_code refusal.ReservationTooSmall = code.RESERVATION_TOO_SMALL
refusal_code refusal.NoFrames = code.NO_FRAMES
refusal_code refusal.TooManyLive = code.TOO_MANY_LIVE

-- The number of an abort of the heap.
abbrev pub abort_code : HeapAbort → ℕ
abort_code abort.Misaligned = code.MISALIGNED
abort_code abort.Unmapped = code.UNMAPPED
abort_code abort.HeaderCorrupt = code.HEADER_CORRUPT
abort_code abort.InvalidState = code.INVALID_STATE
abort_code abort.NotABlock = code.NOT_A_BLOCK
abort_code abort.AlreadyFree = code.ALREADY_FREE

-- The number of a fault of a script.
abbrev pub script_code : ScriptFault → ℕ
script_code script.Syntax = code.SYNTAX
script_code script.BadNumber = code.BAD_NUMBER
script_code script.NoSuchFile = code.NO_SUCH_FILE
script_code script.TooManyEvents = code.TOO_MANY_EVENTS
