use Rattle.std.proofs.Common.{◌≡◌, ◌∷◌, ◌++◌, ◌∙◌, [], replicate, sym, ap, arith}
use Rattle.std.specs.Prelude.{vec_len}
use Rattle.std.proofs.lemmas.List.{replicate_more}
use Rattle.scudo_header.specs.declared.config.TheConstants.{CLASSES}
use Rattle.scudo_primary.proofs.CacheLemmas.{new-cache, new-view}
use Rattle.scudo_primary.proofs.cache.Cache.new.Goals as goal

pub loop-entries-preserved : goal.loop-entries-preserved
loop-entries-preserved c =
    let i = c.loop-entries.invariant in
    let push = c.push_reserved.ensures in
    let n = vec_len c.loop-entries.entries in
    record {
      items = push.items ∙ ap (λ x. c.loop-entries.entries.items ++ x ∷ []) c.new.ensures ∙ ap (λ t. t ++ [] ∷ []) i.items ∙ replicate_more n [] ∙ ap (λ k. replicate k []) (sym push.len);
      few = omega (arith, push.len);
      capacity = push.capacity ∙ i.capacity;
    }

all-items : (c : goal.After-loop-entries) → c.loop-entries.entries.items ≡ replicate CLASSES []
all-items c =
    let i = c.loop-entries.invariant in
    let all : vec_len c.loop-entries.entries ≡ CLASSES = omega (arith, i.few) in
    i.items ∙ ap (λ k. replicate k []) all

pub invariant_of-result : goal.invariant_of-result
invariant_of-result c = new-cache _ (all-items c)

pub returns : goal.returns
returns c = new-view (record { entries = c.loop-entries.entries }) CLASSES (all-items c) c.loop-entries.invariant.capacity
