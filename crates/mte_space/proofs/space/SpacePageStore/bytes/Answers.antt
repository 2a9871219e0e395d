use Rattle.mte_space.proofs.PlaceSteps.{taken_in}
use Rattle.mte_space.proofs.space.SpacePageStore.bytes.Goals as goal

pub bytes-requires : goal.bytes-requires
bytes-requires c = rw c.at.ensures (taken_in c.args.self.now c.args.place c.requires)
