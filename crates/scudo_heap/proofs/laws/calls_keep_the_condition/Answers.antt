use Rattle.scudo_heap.proofs.CallLemmas.{call_sound}
use Rattle.scudo_heap.proofs.FirstLemmas.{sound-first}
use Rattle.scudo_heap.proofs.SoundLemmas.{sound-same}
use Rattle.scudo_heap.proofs.laws.calls_keep_the_condition.Goals as goal

pub returns-clause-first : goal.returns-clause-first
returns-clause-first c = sound-first

pub returns-clause-calls : goal.returns-clause-calls
returns-clause-calls c = call_sound

pub returns-clause-same : goal.returns-clause-same
returns-clause-same c = sound-same
