use Rattle.a64_decode.proofs.RowLemmas.{again}
use Rattle.a64_decode.proofs.Words.{is_decoded, read_allowed, reads_it, found_same, read_fits}
use Rattle.a64_decode.proofs.decoder.decode.Goals as goal

pub returns-clause-means : goal.returns-clause-means
returns-clause-means c i = (
  λ e. record { allowed = read_allowed _ _ i c.read.ensures.row e; same = found_same _ _ i c.read.ensures.same e },
  λ h. reads_it _ _ i c.read.ensures.row (again i _ h.allowed h.same).1.1 h.allowed,
)

pub returns-clause-value : goal.returns-clause-value
returns-clause-value c = is_decoded _ _ (returns-clause-means c)

pub returns-clause-fits : goal.returns-clause-fits
returns-clause-fits c = read_fits _ _ c.read.ensures.row
