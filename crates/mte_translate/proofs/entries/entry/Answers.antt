use Rattle.std.proofs.Common.{◌∙◌, ◌*◌, ◌+◌, ap}
use Rattle.std.specs.Int.{from_le_bytes, w64}
use Rattle.std.specs.List.{slice_range}
use Rattle.mte_translate.specs.Tables.{entry_at}
use Rattle.mte_translate.proofs.entries.entry.Goals as goal

pub returns : goal.returns
unfolding entry_at
returns c = c.from_le_bytes.ensures ∙ ap (from_le_bytes w64) (c.copy_from_slice.ensures.after ∙ ap (λ bs. slice_range bs (8 * c.args.index) (8 * c.args.index + 8)) c.bytes.ensures.value)
