use Rattle.std.proofs.Common.{◌≡◌, ◌∙◌, ◌+◌, ◌-◌, ◌++◌, ◌∷◌, [], ℕ, length, replicate, slice_set, ap, sym, append_assoc, rules, arith}
use Rattle.std.proofs.lemmas.List.{append-nil, replicate_more}
use Rattle.mte_sched.proofs.index.Index.enter.Goals as goal

pub loop-init : goal.loop-init
loop-init c =
    let positions = c.args.self.now.positions in
    let none : c.len-counter.result - length positions.items ≡ 0 = omega (arith, positions.ok.0) in
    record {
      items = sym (ap (λ n. positions.items ++ replicate n 0) none ∙ append-nil positions.items);
      many = sym c.len-counter.ensures;
      most = omega (arith, positions.ok.0);
      room = search rules;
    }

pub push_reserved-requires : goal.push_reserved-requires
push_reserved-requires c = omega (arith, c.loop.invariant.many, c.loop.self.room)

pub loop-preserved : goal.loop-preserved
loop-preserved c =
    let old = c.args.self.now.positions in
    let more : ℕ = c.loop.counter - length old.items in
    let next : more + 1 ≡ c.loop.counter + 1 - length old.items = omega (arith, old.ok.0) in
    let pushed : c.push_reserved.new.self.items ≡ (old.items ++ replicate more 0) ++ 0 ∷ [] =
    c.push_reserved.ensures.items ∙ ap (λ l. l ++ 0 ∷ []) c.loop.invariant.items in
    let whole : (old.items ++ replicate more 0) ++ 0 ∷ [] ≡ old.items ++ replicate (more + 1) 0 =
    append_assoc old.items (replicate more 0) (0 ∷ []) ∙ ap (λ l. old.items ++ l) (replicate_more more 0) in
    record {
      items = pushed ∙ whole ∙ ap (λ n. old.items ++ replicate n 0) next;
      many = c.push_reserved.ensures.len ∙ ap (λ n. n + 1) c.loop.invariant.many;
      most = omega arith;
      room = c.push_reserved.ensures.capacity ∙ c.loop.invariant.room;
    }

pub index_mut-requires : goal.index_mut-requires
index_mut-requires c = omega (arith, c.loop.invariant.many)

pub returns-clause-entered : goal.returns-clause-entered
returns-clause-entered c =
    let old = c.args.self.now.positions in
    let more : c.loop.counter - length old.items ≡ c.args.id + 1 - length old.items = omega (arith, old.ok.0) in
    ap (λ l. slice_set l c.from-id.result c.args.position) (c.loop.invariant.items ∙ ap (λ n. old.items ++ replicate n 0) more)
    ∙ ap (λ i. slice_set (old.items ++ replicate (c.args.id + 1 - length old.items) 0) i c.args.position) c.from-id.ensures
