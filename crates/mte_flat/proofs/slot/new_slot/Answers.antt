use Rattle.std.proofs.Common.{refl, ◌<◌, arith}
use Rattle.std.proofs.lemmas.List.Elements.{All-replicate}
use Rattle.mte_tags.specs.Memory.{new_page}
use Rattle.mte_flat.proofs.slot.new_slot.Goals as goal

pub returns-clause-holds : goal.returns-clause-holds
unfolding new_page
returns-clause-holds c = refl

pub returns-clause-small : goal.returns-clause-small
returns-clause-small c = All-replicate (λ t. t < 16) 256 0 (omega arith)
