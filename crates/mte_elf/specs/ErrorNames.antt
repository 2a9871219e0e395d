-- The names of an image's refusals.
use Rattle.std.specs.Prelude.{ℕ, List, codes}
use Rattle.mte_elf.specs.declared.error.ElfError.{ElfError}
use Rattle.mte_elf.specs.declared.error.ElfError.TheVariants as elf

-- The name of a refusal of an image.
abbrev pub image_name : ElfError → List ℕ
image_name elf.Short = codes "Short"
image_name elf.NotElf64 = codes "NotElf64"
image_name elf.NotAarch64 = codes "NotAarch64"
image_name elf.NotExec = codes "NotExec"
image_name elf.BadHeaders = codes "BadHeaders"
image_name elf.Interpreter = codes "Interpreter"
image_name elf.SegmentRange = codes "SegmentRange"
image_name elf.Overlap = codes "Overlap"
image_name elf.NoEntry = codes "NoEntry"
