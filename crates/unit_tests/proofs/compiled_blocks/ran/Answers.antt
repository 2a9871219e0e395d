use Rattle.unit_tests.proofs.compiled_blocks.ran.Goals as goal

pub run-left-requires-clause-known : goal.run-left-requires-clause-known
run-left-requires-clause-known g c = c.begin_run.ensures c.write.new.self
