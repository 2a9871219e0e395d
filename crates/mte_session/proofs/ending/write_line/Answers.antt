use Rattle.std.proofs.Common.{rules, ◌≡◌, decimal}
use Rattle.mte_script.specs.Faults.{fault_name}
use Rattle.mte_session.proofs.ending.write_line.Goals as goal

pub returns-in-Read : goal.returns-in-Read
returns-in-Read g c = rw (c.in-Read.is, ← c.as_bytes-in-Read.ensures.value) c.write_parts-in-Read.ensures

pub returns-in-Write : goal.returns-in-Write
returns-in-Write g c = rw c.in-Write.is c.write_parts-in-Write.ensures

pub returns-in-Memory : goal.returns-in-Memory
returns-in-Memory g c = rw c.in-Memory.is c.write_parts-in-Memory.ensures

pub returns-in-Script : goal.returns-in-Script
returns-in-Script g c =
    let number : c.as_bytes-number.result.now ≡ decimal c.in-Script.line = search rules in
    let name : c.as_bytes.result.now ≡ fault_name c.in-Script.fault = search rules in
    rw (c.in-Script.is, ← number, ← name) c.write_parts-in-Script.ensures
