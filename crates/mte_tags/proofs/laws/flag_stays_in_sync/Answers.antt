use Rattle.mte_tags.proofs.ModeLaws.{after_read-sync, after_write-sync}
use Rattle.mte_tags.proofs.laws.flag_stays_in_sync.Goals as goal

pub returns-clause-read : goal.returns-clause-read
returns-clause-read c = after_read-sync

pub returns-clause-write : goal.returns-clause-write
returns-clause-write c = after_write-sync
