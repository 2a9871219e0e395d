use Rattle.std.proofs.Common.{ap, ◌∙◌}
use Rattle.mte_tags.specs.Memory.{attrs_at}
use Rattle.mte_tags.proofs.PageLaws.{attrs_at-with_granules}
use Rattle.scudo_heap.proofs.OpenLemmas.{tags_stored}
use Rattle.scudo_heap.proofs.granules.set_tags.Goals as goal

pub returns-clause-memory : goal.returns-clause-memory
returns-clause-memory g c = tags_stored _ _ _ _ _ _ _ c.store_tags.ensures.answer c.store_tags.ensures.memory c.requires.aligned c.requires.open

pub returns-clause-attrs : goal.returns-clause-attrs
returns-clause-attrs g c = λ q. ap (λ m. attrs_at m q) (tags_stored _ _ _ _ _ _ _ c.store_tags.ensures.answer c.store_tags.ensures.memory c.requires.aligned c.requires.open)
    ∙ attrs_at-with_granules c.args.granules _ c.args.addr c.args.tag c.args.zero q
