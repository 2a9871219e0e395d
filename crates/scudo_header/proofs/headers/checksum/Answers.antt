use Rattle.std.proofs.Common.{◌∙◌}
use Rattle.scudo_header.proofs.HeaderLemmas.{checksum_parts}
use Rattle.scudo_header.proofs.headers.checksum.Goals as goal

pub returns : goal.returns
returns c = c.add_word.ensures ∙ checksum_parts c.args.cookie c.args.pointer c.args.header _ _ c.plain.ensures c.add_word-sum.ensures
