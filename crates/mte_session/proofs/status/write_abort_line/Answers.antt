use Rattle.std.proofs.Common.{◌≡◌, rules}
use Rattle.scudo_heap.specs.AbortNames.{abort_name}
use Rattle.mte_session.proofs.status.write_abort_line.Goals as goal

pub returns : goal.returns
returns g c =
    let name : c.as_bytes.result.now ≡ abort_name c.args.abort = search rules in
    rw (← name, ← c.sixteen_hex.ensures, ← c.sixteen_hex-2.ensures) c.write_parts.ensures
