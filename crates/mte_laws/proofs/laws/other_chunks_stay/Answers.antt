use Rattle.mte_laws.proofs.OtherBytes.{others-stay}
use Rattle.mte_laws.proofs.Headers.{headers-stay}
use Rattle.mte_laws.proofs.laws.other_chunks_stay.Goals as goal

pub returns-clause-bytes : goal.returns-clause-bytes
returns-clause-bytes c = others-stay

pub returns-clause-headers : goal.returns-clause-headers
returns-clause-headers c = headers-stay
