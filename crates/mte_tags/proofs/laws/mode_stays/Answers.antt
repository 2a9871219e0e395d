use Rattle.mte_tags.proofs.StateLaws.{state-with-bytes-at, state-with_granules, state-with_new_pages, state-without_pages, mode-after_read, mode-after_write}
use Rattle.mte_tags.proofs.laws.mode_stays.Goals as goal

pub returns-clause-read : goal.returns-clause-read
returns-clause-read c = mode-after_read

pub returns-clause-write : goal.returns-clause-write
returns-clause-write c = mode-after_write

pub returns-clause-store_tags : goal.returns-clause-store_tags
returns-clause-store_tags c = λ m a n tag zero. state-with_granules n m a tag zero

pub returns-clause-map : goal.returns-clause-map
returns-clause-map c = λ m page n attrs. state-with_new_pages n m page attrs

pub returns-clause-unmap : goal.returns-clause-unmap
returns-clause-unmap c = λ m page n. state-without_pages n m page

pub returns-clause-load : goal.returns-clause-load
returns-clause-load c = state-with-bytes-at
