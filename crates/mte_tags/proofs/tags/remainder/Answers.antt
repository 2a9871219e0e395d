use Rattle.mte_tags.proofs.Allowed.{remainder_by_product}
use Rattle.mte_tags.proofs.tags.remainder.Goals as goal

pub returns : goal.returns
returns c = (remainder_by_product c.args.rank c.args.count c.requires.rank c.requires.some c.requires.most).left
