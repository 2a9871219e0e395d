use Rattle.std.proofs.Common.{◌∙◌, ap, drop, length, arith}
use Rattle.mte_translate.specs.Windows.{Window}
use Rattle.mte_translate.proofs.WindowLemmas.{window-drop, window-long}
use Rattle.mte_translate.proofs.standing.Standing.drop_oldest.Goals as goal

pub returns-clause-items : goal.returns-clause-items
returns-clause-items c =
    let s = c.self.inside in
    let long = window-long s.places s.first s.end (omega arith) (omega arith) in
    let some = ap (λ (w : Window). length w.items) c.self.view_is in
    window-drop s.places s.first s.end (omega (arith, long, some, c.requires)) ∙ ap (λ (w : Window). drop 1 w.items) c.self.view_is
