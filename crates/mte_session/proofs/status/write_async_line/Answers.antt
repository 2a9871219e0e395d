use Rattle.mte_session.proofs.status.write_async_line.Goals as goal

pub returns : goal.returns
returns g c = rw (← c.sixteen_hex.ensures) c.write_parts.ensures
