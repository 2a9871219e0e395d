use Rattle.std.proofs.Common.{◌∙◌, ap, sym, arith}
use Rattle.std.proofs.lemmas.Bool.{ne_eqb}
use Rattle.mte_elf.specs.Headers.{is_interpreter}
use Rattle.mte_elf.proofs.ImageLemmas.{any_header-next}
use Rattle.mte_elf.proofs.headers.has_interpreter.Goals as goal

pub loop-i-preserved : goal.loop-i-preserved
loop-i-preserved c =
    any_header-next c.args.file.now c.table_offset-at.result c.loop-i.i c.header_count-count.result is_interpreter _ (omega arith)
    (ap is_interpreter (sym c.program_header.ensures) ∙ ne_eqb c.program_header.result.kind 3 c.if-program_header-eq-INTERPRETER.false) c.loop-i.invariant
