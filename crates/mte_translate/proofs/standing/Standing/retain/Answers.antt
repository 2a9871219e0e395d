use Rattle.std.proofs.Common.{◌≡◌, ◌∙◌, ◌<◌, refl, sym, ap, filter, take, length, arith}
use Rattle.std.proofs.lemmas.Fn.{says_at}
use Rattle.std.proofs.lemmas.List.{get_or_default, length-set}
use Rattle.std.proofs.lemmas.List.Filters.{FiltersInPlace-more_no, FiltersInPlace-more_set}
use Rattle.mte_translate.specs.Windows.{Window}
use Rattle.mte_translate.proofs.WindowLemmas.{window-front}
use Rattle.mte_translate.proofs.standing.Standing.retain.Goals.{then-keeps, else-keeps}
use Rattle.mte_translate.proofs.standing.Standing.retain.Goals as goal

pub loop-place-init : goal.loop-place-init
loop-place-init g c =
    record {
      front = ap (λ (w : Window). w.first) c.self.view_is ∙ c.requires.front;
      behind = omega arith;
      long = omega arith;
      kept = λ test is. record { front = refl; rest = refl; behind = omega arith; within = omega arith; long = refl };
    }

pub loop-place-preserved : goal.loop-place-preserved
loop-place-preserved g c =
    let at = c.loop-place in
    let ys = at.self-inside.places in
    let within : at.place < length ys = omega (arith, at.invariant.long, c.self.invariant.2) in
    let said = says_at g.F.Fn c.keeps.ensures refl in
    elim c.if-keeps.branch [
      | then-keeps w ↦ rw (w.self-inside-is, w.kept-is) record {
        front = at.invariant.front;
        behind = omega (arith, at.invariant.behind);
        long = length-set ys at.kept _ ∙ at.invariant.long;
        kept = λ test is. FiltersInPlace-more_set (at.invariant.kept test is) within (sym (is _ _ said) ∙ w.if-keeps.true) (get_or_default ys at.place _ _ within);
      }
      | else-keeps w ↦ rw (w.self-inside-is, w.kept-is) record {
        front = at.invariant.front;
        behind = omega (arith, at.invariant.behind);
        long = at.invariant.long;
        kept = λ test is. FiltersInPlace-more_no (at.invariant.kept test is) within (sym (is _ _ said) ∙ w.if-keeps.false) (get_or_default ys at.place _ _ within);
      }
    ]

pub invariant_of-self : goal.invariant_of-self
invariant_of-self g c =
    let front = ap (λ (w : Window). w.first) c.self.view_is ∙ c.requires.front in
    let at = c.loop-place.invariant in
    (omega (arith, at.front), omega (arith, at.behind, front), omega (arith, at.behind), at.long)

pub returns-clause-first : goal.returns-clause-first
returns-clause-first g c = c.loop-place.invariant.front

pub returns-clause-items : goal.returns-clause-items
returns-clause-items g c = λ test is.
    let s = c.self.inside in
    let front : s.first ≡ 0 = ap (λ (w : Window). w.first) c.self.view_is ∙ c.requires.front in
    let end : c.loop-place.place ≡ s.end = omega arith in
    window-front _ _ _ c.loop-place.invariant.front ∙ (c.loop-place.invariant.kept test is).front
    ∙ ap (λ n. filter test (take n s.places)) end
    ∙ ap (filter test) (sym (window-front s.places s.first s.end front))
    ∙ ap (λ (w : Window). filter test w.items) c.self.view_is
