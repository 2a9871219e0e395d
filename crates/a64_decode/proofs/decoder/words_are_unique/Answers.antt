use Rattle.a64_decode.proofs.Words.{one_word}
use Rattle.a64_decode.proofs.decoder.words_are_unique.Goals as goal

pub returns : goal.returns
returns c = one_word
