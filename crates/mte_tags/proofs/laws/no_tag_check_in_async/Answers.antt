use Rattle.mte_tags.proofs.ModeLaws.{read_fault-kind, write_fault-kind}
use Rattle.mte_tags.proofs.laws.no_tag_check_in_async.Goals as goal

pub returns-clause-read : goal.returns-clause-read
returns-clause-read c = read_fault-kind

pub returns-clause-write : goal.returns-clause-write
returns-clause-write c = write_fault-kind
