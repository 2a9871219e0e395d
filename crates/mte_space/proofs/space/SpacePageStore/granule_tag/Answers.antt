use Rattle.mte_space.proofs.PlaceSteps.{taken_in}
use Rattle.mte_space.proofs.space.SpacePageStore.granule_tag.Goals as goal

pub tag-requires-clause-out : goal.tag-requires-clause-out
tag-requires-clause-out c = rw c.at.ensures (taken_in c.args.self.now c.args.place c.requires.place)
