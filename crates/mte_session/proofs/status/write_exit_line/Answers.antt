use Rattle.std.proofs.Common.{rules, ◌≡◌, decimal}
use Rattle.mte_session.proofs.status.write_exit_line.Goals as goal

pub returns : goal.returns
returns g c =
    let code : c.as_bytes-code.result.now ≡ decimal c.args.code = search rules in
    rw (← code) c.write_parts.ensures
