use Rattle.mte_session.proofs.status.write_status_line.Goals as goal

pub returns-in-Faulted : goal.returns-in-Faulted
returns-in-Faulted g c = rw c.in-Faulted.is c.write_fault_line.ensures

pub returns-in-Illegal : goal.returns-in-Illegal
returns-in-Illegal g c = rw c.in-Illegal.is c.write_illegal_line.ensures

pub returns-in-Breakpoint : goal.returns-in-Breakpoint
returns-in-Breakpoint g c = rw c.in-Breakpoint.is c.write_break_line.ensures

pub returns-in-AsyncTag : goal.returns-in-AsyncTag
returns-in-AsyncTag g c = rw c.in-AsyncTag.is c.write_async_line.ensures

pub returns-in-Aborted : goal.returns-in-Aborted
returns-in-Aborted g c = rw c.in-Aborted.is c.write_abort_line.ensures
