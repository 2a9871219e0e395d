use Rattle.std.proofs.Common.{◌≡◌, ◌∙◌, ap, length, arith}
use Rattle.std.specs.List.{remove}
use Rattle.mte_translate.specs.Windows.{Window}
use Rattle.mte_translate.proofs.WindowLemmas.{window-remove, window-long}
use Rattle.mte_translate.proofs.standing.Standing.remove.Goals as goal

pub returns-clause-items : goal.returns-clause-items
returns-clause-items c = λ i at.
    let s = c.self.inside in
    let long = window-long s.places s.first s.end (omega arith) (omega arith) in
    let first : s.first ≡ c.args.self.now.first = ap (λ (w : Window). w.first) c.self.view_is in
    let count = ap (λ (w : Window). length w.items) c.self.view_is in
    let by = c.copy_within.ensures.by_index in
    window-remove s.places c.copy_within.new.self s.first s.end c.args.place i (omega (arith, at, first)) (omega (arith, long, first, count)) (omega arith) c.copy_within.ensures.len
    (λ k d l. by.1 k d l) (λ k d l m. by.0 k d l m)
    ∙ ap (λ (w : Window). remove w.items i) c.self.view_is
