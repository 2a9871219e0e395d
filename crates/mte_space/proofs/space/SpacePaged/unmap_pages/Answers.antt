use Rattle.std.proofs.Common.{◌+◌}
use Rattle.mte_translate.specs.Tables.{pages_of}
use Rattle.mte_space.proofs.Memories.{page_there, mapped_there}
use Rattle.mte_space.proofs.space.SpacePaged.unmap_pages.Goals as goal

pub unmap_range-requires-clause-mapped : goal.unmap_range-requires-clause-mapped
unmap_range-requires-clause-mapped c = λ s i l.
    let self = c.args.self.now in
    page_there self.pool.now self.table.now self.limit s (c.args.page + i) (mapped_there self.pool.now self.table.now self.limit self.state.now (c.args.page + i) (c.requires i l))

pub invariant_of-self : goal.invariant_of-self
invariant_of-self c =
    record {
      space = c.unmap_range.ensures.space;
      cached = c.unmap_range.ensures.cached;
      up_to_date = c.forget.ensures (pages_of c.unmap_range.new.pool c.unmap_range.new.table.frame);
    }
