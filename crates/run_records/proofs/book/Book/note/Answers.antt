use Rattle.std.proofs.Common.{rules}
use Rattle.run_records.proofs.book.Book.note.Goals as goal

pub returns-clause-entered : goal.returns-clause-entered
returns-clause-entered g c = record { callers = c.of-callers.result; entries = search rules }
