use Rattle.std.proofs.Common.{◌≡◌, ◌∙◌, ap}
use Rattle.mte_tags.specs.TagChoice.{chosen_tag}
use Rattle.mte_tags.specs.RandomTags.{after_draw, drawn_tag, offset_of, seed_after}
use Rattle.mte_tags.proofs.RandomBits.{seed_after_next, offset_of_next}
use Rattle.mte_tags.proofs.generator.Rgsr.draw.Goals as goal

pub returns-clause-tag : goal.returns-clause-tag
unfolding after_draw
returns-clause-tag c = c.choose_non_excluded-self.ensures.choice ∙ ap (λ k. chosen_tag c.args.self.now.tag k c.args.exclude) c.random_tag-offset.ensures.offset

pub returns-clause-rgsr : goal.returns-clause-rgsr
unfolding after_draw
returns-clause-rgsr c =
    let tag : c.choose_non_excluded-self.result ≡ drawn_tag c.args.self.now c.args.exclude =
    c.choose_non_excluded-self.ensures.choice ∙ ap (λ k. chosen_tag c.args.self.now.tag k c.args.exclude) c.random_tag-offset.ensures.offset in
    let seed : c.random_tag-offset.new.seed ≡ seed_after c.args.self.now.seed 1 = c.random_tag-offset.ensures.seed in
    λ i. record { tag = tag i; seed = seed i }

pub returns-clause-in_sequence : goal.returns-clause-in_sequence
returns-clause-in_sequence c = λ first draws e. c.random_tag-offset.ensures.seed ∙ ap (λ s. seed_after s 1) e ∙ seed_after_next first draws

pub returns-clause-by_sequence : goal.returns-clause-by_sequence
returns-clause-by_sequence c = λ first draws e.
    c.choose_non_excluded-self.ensures.choice
    ∙ ap (λ k. chosen_tag c.args.self.now.tag k c.args.exclude) (c.random_tag-offset.ensures.offset ∙ ap (λ s. offset_of s 0) e ∙ offset_of_next first draws)
