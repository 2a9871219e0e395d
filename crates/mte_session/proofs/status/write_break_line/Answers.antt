use Rattle.std.proofs.Common.{rules, ◌≡◌, decimal}
use Rattle.mte_session.proofs.status.write_break_line.Goals as goal

pub returns : goal.returns
returns g c =
    let number : c.as_bytes-number.result.now ≡ decimal c.args.number = search rules in
    rw (← c.sixteen_hex.ensures, ← number) c.write_parts.ensures
