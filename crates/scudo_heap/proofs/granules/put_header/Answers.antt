use Rattle.std.proofs.Common.{◌-◌, ap, ◌∙◌}
use Rattle.std.specs.Int.{to_le_bytes, w64}
use Rattle.mte_tags.specs.Accesses.{with_bytes_at}
use Rattle.scudo_heap.specs.Chunks.{with_header}
use Rattle.scudo_heap.proofs.granules.put_header.Goals as goal

pub returns-clause-memory : goal.returns-clause-memory
unfolding with_header
returns-clause-memory g c =
    c.put_word.ensures.memory
    ∙ ap (λ word. with_bytes_at (g.M.Tagged.memory c.args.memory.now) (c.args.user - 16) (to_le_bytes w64 word)) c.pack.ensures.word
