use Rattle.std.proofs.Common.{ap, ◌∙◌, arith}
use Rattle.std.proofs.Common.{get_or}
use Rattle.scudo_primary.proofs.FillLemmas.{one-more}
use Rattle.scudo_primary.proofs.lists.fill_up.Goals as goal

pub loop-value-preserved : goal.loop-value-preserved
loop-value-preserved g c =
    let i = c.loop-value.invariant in
    let push = c.push_reserved.ensures in
    record {
      same = λ k. ap (λ t. get_or t k c.args.value) push.items ∙ one-more _ c.args.value k ∙ i.same k;
      longer = (let a = i.longer in let b = push.len in omega arith);
      long = omega arith;
      capacity = push.capacity ∙ i.capacity;
    }
