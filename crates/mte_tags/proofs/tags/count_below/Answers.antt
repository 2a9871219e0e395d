use Rattle.std.proofs.Common.{◌∙◌, ◌^◌, ◌≤◌, arith, lit<, sym, ap, length}
use Rattle.std.specs.Prelude.{bit_or}
use Rattle.mte_tags.specs.TagChoice.{allowed_tags}
use Rattle.std.proofs.Math.Nat.{pow-le-pow_right}
use Rattle.mte_tags.proofs.Allowed.{count_masked}
use Rattle.mte_tags.proofs.tags.count_below.Goals as goal

pub returns-clause-count : goal.returns-clause-count
returns-clause-count c =
    let b = c.args.bound in
    let e = c.args.exclude in
    c.count_allowed.ensures.count
    ∙ ap (λ m. length (allowed_tags (bit_or e m))) (let p : 2 ^ b ≤ 2 ^ 16 = pow-le-pow_right (lit< tt) c.requires in omega arith)
    ∙ sym (count_masked e b c.requires)
