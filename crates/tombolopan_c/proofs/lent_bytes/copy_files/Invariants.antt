use Rattle.std.proofs.Common.{◌≡◌, take}
use Rattle.mte_session.specs.Files.{contents}
use Rattle.tombolopan_c.specs.LentBuffers.{lent_contents}
use Rattle.tombolopan_c.proofs.lent_bytes.copy_files.Given as goal

abbrev pub invariant-loop-file : goal.invariant-loop-file
invariant-loop-file l = contents l.copies.items ≡ lent_contents (take l.file-index l.files)
