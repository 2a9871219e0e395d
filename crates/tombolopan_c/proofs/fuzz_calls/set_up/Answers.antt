use Rattle.tombolopan_c.proofs.Fuzzed.{without_memory}
use Rattle.tombolopan_c.proofs.fuzz_calls.set_up.Goals as goal

pub returns-in_default : goal.returns-in_default
returns-in_default c =
    without_memory c.args.terms.now c.args.fuzz.now.value c.without_tenant.result c.requires.none c.requires.accepted c.without_tenant.ensures
