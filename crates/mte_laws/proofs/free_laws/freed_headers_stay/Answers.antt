use Rattle.mte_laws.proofs.FreedHeaders.{freed-headers-stay}
use Rattle.mte_laws.proofs.free_laws.freed_headers_stay.Goals as goal

pub returns : goal.returns
returns c = freed-headers-stay
