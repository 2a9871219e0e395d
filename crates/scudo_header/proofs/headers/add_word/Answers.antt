use Rattle.std.proofs.Common.{◌∙◌}
use Rattle.scudo_header.proofs.HeaderLemmas.{word_halves}
use Rattle.scudo_header.proofs.headers.add_word.Goals as goal

pub returns : goal.returns
returns c = c.add_upper_half.ensures ∙ word_halves c.args.start c.args.word _ c.add_half-lower.ensures
