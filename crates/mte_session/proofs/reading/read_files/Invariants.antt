use Rattle.std.proofs.Common.{take}
use Rattle.mte_session.specs.Files.{contents}
use Rattle.mte_session.specs.Reads.{names_of, ReadInOrder}
use Rattle.mte_session.proofs.reading.read_files.Given as goal

abbrev pub invariant-loop-name : goal.invariant-loop-name
invariant-loop-name g l =
    ReadInOrder (names_of (take l.name-index l.names)) (contents l.whole.items) (g.F.Files.log l.fn.files) (g.F.Files.log l.files)
