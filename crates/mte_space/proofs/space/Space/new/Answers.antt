use Rattle.mte_space.proofs.space.Space.new.Goals as goal

pub invariant_of-result : goal.invariant_of-result
invariant_of-result c =
    record {
      space = record { table = c.requires.table; once = c.requires.once; below = c.requires.most; frames = c.requires.frames };
      cached = c.requires.cached;
      up_to_date = c.requires.remembered;
    }
