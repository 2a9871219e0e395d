use Rattle.std.proofs.Common.{◌∙◌, ap}
use Rattle.gdb_packets.specs.Reading.{reading_of}
use Rattle.gdb_packets.proofs.ReadingLemmas.{takes, read_again, settled}
use Rattle.gdb_packets.proofs.input.read_input.Goals as goal

pub returns-clause-takes : goal.returns-clause-takes
returns-clause-takes c = rw c.first_input.ensures (takes c.args.bytes.now)

pub returns-clause-again : goal.returns-clause-again
returns-clause-again c payload rest fits e =
    c.first_input.ensures ∙ ap reading_of e ∙ read_again payload rest fits

pub returns-clause-settled : goal.returns-clause-settled
returns-clause-settled c later known =
    rw c.first_input.ensures (settled c.args.bytes.now later (rw c.first_input.ensures at known))
