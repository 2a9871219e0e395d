use Rattle.mte_session.proofs.status.write_illegal_line.Goals as goal

pub returns : goal.returns
returns g c = rw (← c.eight_hex.ensures, ← c.sixteen_hex.ensures) c.write_parts.ensures
