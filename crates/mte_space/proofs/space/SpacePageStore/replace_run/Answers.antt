use Rattle.std.proofs.Common.{refl}
use Rattle.mte_space.specs.KeptSpaces.{none_enters_same}
use Rattle.mte_space.proofs.PlaceSteps.{taken_in, space_in, cached_in, up_to_date_in, memory_in, page_in_new, rest_in}
use Rattle.mte_space.proofs.space.SpacePageStore.replace_run.Goals as goal

pub invariant_of-self : goal.invariant_of-self
invariant_of-self c =
    let s = c.args.self.now in
    record {
      space = space_in s c.args.place _ _ c.requires.place (rw c.at.ensures at c.write_frame.ensures.pool);
      cached = cached_in s c.args.place _ _ c.requires.place (rw c.at.ensures at c.write_frame.ensures.pool) s.asid s.tlb.now s.cached;
      up_to_date = up_to_date_in s c.args.place _ _ c.requires.place (rw c.at.ensures at c.write_frame.ensures.pool);
    }

pub returns-clause-memory : goal.returns-clause-memory
returns-clause-memory c =
    memory_in c.args.self.now c.args.place _ _ c.requires.place (rw c.at.ensures at c.write_frame.ensures.pool) c.write_frame.ensures.sound

pub returns-clause-page : goal.returns-clause-page
returns-clause-page c =
    page_in_new c.args.self.now c.args.place _ _ c.requires.place (rw c.at.ensures at c.write_frame.ensures.pool) c.write_frame.ensures.sound

pub returns-clause-kept : goal.returns-clause-kept
returns-clause-kept c =
    let s = c.args.self.now in
    record {
      borrows = record { pool = refl; table = refl; quota = refl; tlb = refl; state = refl; remembered = refl };
      asid = refl;
      limit = refl;
      quota = refl;
      rest = rest_in s c.args.place _ _ c.requires.place (rw c.at.ensures at c.write_frame.ensures.pool) (rw c.at.ensures at c.write_frame.ensures.others);
      entries = none_enters_same s.asid s.tlb.now;
    }

pub write_frame-requires-clause-out : goal.write_frame-requires-clause-out
write_frame-requires-clause-out c = rw c.at.ensures (taken_in c.args.self.now c.args.place c.requires.place)
