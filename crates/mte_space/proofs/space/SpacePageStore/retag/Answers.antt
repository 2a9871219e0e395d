use Rattle.std.proofs.Common.{◌∙◌, ap, refl}
use Rattle.mte_tags.specs.Memory.{with_page}
use Rattle.mte_space.specs.SpaceMemory.{memory_of}
use Rattle.mte_space.specs.KeptSpaces.{none_enters_same}
use Rattle.mte_space.specs.Places.{remembered_in, number_in}
use Rattle.mte_space.specs.Remembered.{attrs_of}
use Rattle.mte_space.proofs.Taken.{is_frame}
use Rattle.mte_space.proofs.SpaceSteps.{retagged_is}
use Rattle.mte_space.proofs.PlaceSteps.{taken_in, space_in, cached_in, up_to_date_in, memory_in, page_in_new, rest_in}
use Rattle.mte_space.proofs.space.SpacePageStore.retag.Goals as goal

pub invariant_of-self : goal.invariant_of-self
invariant_of-self c =
    let s = c.args.self.now in
    record {
      space = space_in s c.args.place _ _ c.requires.place (rw c.at-frame.ensures at c.retag_frame.ensures.pool);
      cached = cached_in s c.args.place _ _ c.requires.place (rw c.at-frame.ensures at c.retag_frame.ensures.pool) s.asid s.tlb.now s.cached;
      up_to_date = up_to_date_in s c.args.place _ _ c.requires.place (rw c.at-frame.ensures at c.retag_frame.ensures.pool);
    }

pub returns-clause-memory : goal.returns-clause-memory
returns-clause-memory c =
    let s = c.args.self.now in
    memory_in s c.args.place _ _ c.requires.place (rw c.at-frame.ensures at c.retag_frame.ensures.pool) c.retag_frame.ensures.sound
    ∙ ap (with_page (memory_of s) (number_in s c.args.place))
    (retagged_is s.pool.now (remembered_in s c.args.place).frame c.args.first c.args.count c.args.tag (attrs_of (remembered_in s c.args.place)) c.args.zero (taken_in s c.args.place c.requires.place) c.retag_frame.ensures.sound c.retag_frame.ensures.sized c.requires.inside)

pub returns-clause-page : goal.returns-clause-page
returns-clause-page c =
    let s = c.args.self.now in
    page_in_new s c.args.place _ _ c.requires.place (rw c.at-frame.ensures at c.retag_frame.ensures.pool) c.retag_frame.ensures.sound
    ∙ retagged_is s.pool.now (remembered_in s c.args.place).frame c.args.first c.args.count c.args.tag (attrs_of (remembered_in s c.args.place)) c.args.zero (taken_in s c.args.place c.requires.place) c.retag_frame.ensures.sound c.retag_frame.ensures.sized c.requires.inside

pub returns-clause-long : goal.returns-clause-long
returns-clause-long c =
    let s = c.args.self.now in
    (is_frame s.pool.now (remembered_in s c.args.place).frame (taken_in s c.args.place c.requires.place) c.retag_frame.ensures.sound c.retag_frame.ensures.sized).bytes

pub returns-clause-kept : goal.returns-clause-kept
returns-clause-kept c =
    let s = c.args.self.now in
    record {
      borrows = record { pool = refl; table = refl; quota = refl; tlb = refl; state = refl; remembered = refl };
      asid = refl;
      limit = refl;
      quota = refl;
      rest = rest_in s c.args.place _ _ c.requires.place (rw c.at-frame.ensures at c.retag_frame.ensures.pool) (rw c.at-frame.ensures at c.retag_frame.ensures.others);
      entries = none_enters_same s.asid s.tlb.now;
    }

pub retag_frame-requires-clause-out : goal.retag_frame-requires-clause-out
retag_frame-requires-clause-out c = rw c.at-frame.ensures (taken_in c.args.self.now c.args.place c.requires.place)
