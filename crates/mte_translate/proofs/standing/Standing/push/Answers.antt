use Rattle.std.proofs.Common.{◌∙◌, ◌∷◌, ◌++◌, [], ap, length, arith}
use Rattle.mte_translate.specs.Windows.{Window}
use Rattle.mte_translate.proofs.WindowLemmas.{window-push, window-long}
use Rattle.mte_translate.proofs.standing.Standing.push.Goals as goal

pub returns-clause-items : goal.returns-clause-items
returns-clause-items c =
    let s = c.self.inside in
    let long = window-long s.places s.first s.end (omega arith) (omega arith) in
    let first = ap (λ (w : Window). w.first) c.self.view_is in
    let count = ap (λ (w : Window). length w.items) c.self.view_is in
    window-push s.places s.first s.end c.args.translation (omega arith) (omega (arith, long, first, count))
    ∙ ap (λ (w : Window). w.items ++ c.args.translation ∷ []) c.self.view_is
