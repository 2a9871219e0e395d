use Rattle.std.proofs.Common.{◌∙◌, ap, slice_set, None}
use Rattle.mte_frames.specs.Pool.{Pool}
use Rattle.mte_translate.proofs.TableLemmas.{apart-closed}
use Rattle.mte_translate.proofs.table.Table.close.Goals as goal

pub returns-clause-back : goal.returns-clause-back
returns-clause-back c = λ f out. apart-closed c.args.pool.now c.args.quota.now c.args.self _ f c.requires.table c.requires.empty (ap (λ (p : Pool). p.owners) c.give.ensures.pool ∙ ap (λ t. slice_set c.args.pool.now.owners t.frame None) c.self.view_is) out
