use Rattle.std.proofs.Common.{◌≡◌, decimal, rules}
use Rattle.mte_tags.specs.FaultNames.{kind_name}
use Rattle.mte_session.proofs.status.write_fault_line.Goals as goal

pub returns : goal.returns
returns g c =
    let pointer : c.as_bytes-pointer.result.now ≡ decimal c.args.fault.now.ptr_tag = search rules in
    let memory : c.as_bytes-memory.result.now ≡ decimal c.args.fault.now.mem_tag = search rules in
    let kind : c.as_bytes.result.now ≡ kind_name c.args.fault.now.kind = search rules in
    rw (← kind, ← c.access_text.ensures, ← c.sixteen_hex.ensures, ← c.sixteen_hex-2.ensures, ← pointer, ← memory) c.write_parts.ensures
