use Rattle.mte_session.specs.Headline.{input_of}
use Rattle.mte_session.proofs.HeadlineLemmas.{wrote_alike, on_ok}
use Rattle.mte_session.proofs.headline.run_both.Goals as goal

pub returns-clause-same : goal.returns-clause-same
returns-clause-same g c =
    on_ok c.run_session-2.result _ _
    (λ second agree. wrote_alike c.numbers_stay.ensures c.args.id (input_of c.args.one.now) (input_of c.args.other.now) _ _ _ _ c.in_ok-run_session.ensures.done second agree)
    c.run_session-2.ensures.done
