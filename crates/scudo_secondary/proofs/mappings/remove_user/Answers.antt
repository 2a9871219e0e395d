use Rattle.std.proofs.Common.{◌∙◌}
use Rattle.scudo_secondary.proofs.MappingLemmas.{removed, not_there}
use Rattle.scudo_secondary.proofs.mappings.remove_user.Goals as goal

pub returns-in-Some-clause-items : goal.returns-in-Some-clause-items
returns-in-Some-clause-items c = c.remove.ensures.items ∙ removed c.args.mappings.now.items c.deref.result.now c.args.user c.in-Some.i c.deref.ensures.value c.requires.mappings c.in-Some.ensures.some

pub returns-in_default-clause-items : goal.returns-in_default-clause-items
returns-in_default-clause-items c = absurd (not_there c.args.mappings.now.items c.deref.result.now c.args.user c.deref.ensures.value c.in_default.ensures.none c.requires.there)
