use Rattle.std.proofs.Common.{◌≡◌, ◌∙◌, ◌<◌, ◌+◌, ◌-◌, ◌%◌, sym, ap, arith, length, slice_index, refl}
use Rattle.std.specs.List.{count_by}
use Rattle.std.specs.Prelude.{nat_lt}
use Rattle.mte_tags.specs.TagChoice.{chosen_tag, allowed_tags}
use Rattle.mte_tags.proofs.Choices.{chosen_none, chosen_at, chosen_after}
use Rattle.mte_tags.proofs.tags.choose_non_excluded.Goals as goal
use Rattle.mte_tags.proofs.tags.choose_non_excluded.Goals.{then-offset-eq0, else-offset-eq0}

pub returns-then-count-eq0-clause-choice : goal.returns-then-count-eq0-clause-choice
returns-then-count-eq0-clause-choice c = sym (chosen_none c.args.tag c.args.offset c.args.exclude (sym c.count_allowed-count.ensures.count ∙ c.if-count-eq0.true))

pub returns-clause-choice : goal.returns-clause-choice
returns-clause-choice c =
    let tags = allowed_tags c.args.exclude in
    let long : length tags ≡ c.count_allowed-count.result = sym c.count_allowed-count.ensures.count in
    let some : 0 < length tags = omega arith in
    c.allowed_at.ensures.tag ∙ ap (slice_index tags) c.remainder.ensures ∙
    elim c.if-offset-eq0.branch [
      | then-offset-eq0 w ↦
          let rank : c.if-offset-eq0.rank ≡ count_by (λ a. nat_lt a c.args.tag) tags = w.rank-is ∙ w.count_below-rank.ensures.count in
          ap (λ r. slice_index tags (r % c.count_allowed-count.result)) rank
          ∙ ap (λ n. slice_index tags (count_by (λ a. nat_lt a c.args.tag) tags % n)) (sym long)
          ∙ sym (chosen_at c.args.tag c.args.exclude tags refl some)
          ∙ ap (λ k. chosen_tag c.args.tag k c.args.exclude) (sym w.if-offset-eq0.true)
      | else-offset-eq0 w ↦
          let rank : c.if-offset-eq0.rank ≡ count_by (λ a. nat_lt a (c.args.tag + 1)) tags + c.args.offset - 1 = w.rank-is ∙ ap (λ n. n + w.from.result - 1) w.count_below.ensures.count ∙ ap (λ k. count_by (λ a. nat_lt a (c.args.tag + 1)) tags + k - 1) w.from.ensures in
          let later : 0 < c.args.offset = let no = w.if-offset-eq0.false in omega arith in
          ap (λ r. slice_index tags (r % c.count_allowed-count.result)) rank
          ∙ ap (λ n. slice_index tags ((count_by (λ a. nat_lt a (c.args.tag + 1)) tags + c.args.offset - 1) % n)) (sym long)
          ∙ sym (chosen_after c.args.tag c.args.offset c.args.exclude tags refl later some)
    ]
