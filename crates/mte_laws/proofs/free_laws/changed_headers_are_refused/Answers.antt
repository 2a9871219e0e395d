use Rattle.mte_laws.proofs.ChangedHeaders.{changed-refused}
use Rattle.mte_laws.proofs.free_laws.changed_headers_are_refused.Goals as goal

pub returns : goal.returns
returns c = changed-refused
