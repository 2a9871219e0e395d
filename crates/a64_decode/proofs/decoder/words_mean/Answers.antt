use Rattle.a64_decode.proofs.Words.{means}
use Rattle.a64_decode.proofs.decoder.words_mean.Goals as goal

pub returns : goal.returns
returns c = means
