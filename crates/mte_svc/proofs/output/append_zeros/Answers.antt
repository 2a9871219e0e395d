use Rattle.std.proofs.Common.{◌≡◌, ◌-◌, ◌+◌, ◌∷◌, ◌++◌, ◌∙◌, [], replicate, append_assoc, ap, arith}
use Rattle.std.specs.Prelude.{vec_len}
use Rattle.std.proofs.lemmas.List.{replicate_more}
use Rattle.mte_svc.proofs.output.append_zeros.Goals as goal

pub loop-bytes-preserved : goal.loop-bytes-preserved
loop-bytes-preserved c =
    let i = c.loop-bytes.invariant in
    let push = c.push_reserved.ensures in
    let n = vec_len c.loop-bytes.bytes - vec_len c.args.bytes.now in
    let more : n + 1 ≡ vec_len c.push_reserved.new.self - vec_len c.args.bytes.now = omega (arith, push.len, i.least) in
    record {
      items = push.items ∙ ap (λ t. t ++ 0 ∷ []) i.items ∙ append_assoc c.args.bytes.now.items (replicate n 0) (0 ∷ [])
          ∙ ap (λ t. c.args.bytes.now.items ++ t) (replicate_more n 0 ∙ ap (λ k. replicate k 0) more);
      least = omega (arith, push.len, i.least);
      most = omega (arith, push.len);
      capacity = push.capacity ∙ i.capacity;
    }
