use Rattle.std.proofs.Common.{◌≡◌, ◌+◌, length, take, sym, ap, ◌∙◌, arith}
use Rattle.std.proofs.lemmas.List.{length-take-le}
use Rattle.mte_tags.specs.Memory.{attrs_at}
use Rattle.scudo_heap.specs.Realloc.{after_copy}
use Rattle.scudo_heap.proofs.CopyLemmas.{apart-less, after-copy-none, after-copy-more, attrs_at-after-copy, open-with-bytes-at}
use Rattle.scudo_heap.proofs.copying.copy_bytes.Goals as goal

pub loop-done-init : goal.loop-done-init
loop-done-init g c = record {
  within = omega arith;
  memory = sym (after-copy-none (g.M.Tagged.memory c.args.memory.now) c.args.from c.args.to);
  kept = g.met.M.Tagged.kept_same _;
}

pub copy_part-requires-clause-source : goal.copy_part-requires-clause-source
copy_part-requires-clause-source g c =
    let m = g.M.Tagged.memory c.args.memory.now in
    let long : length (take c.min-more.result c.loop-done.part) ≡ c.min-more.result = length-take-le c.min-more.result c.loop-done.part (omega arith) in
    let more = c.min-more.ensures in
    open-with-bytes-at m _ c.args.from (c.args.from + c.args.count) _ _
    (λ q. ap (λ t. attrs_at t q) c.loop-done.invariant.memory ∙ attrs_at-after-copy m c.args.from c.args.to c.loop-done.done q)
    c.requires.source (omega arith) (omega arith)

pub copy_part-requires-clause-target : goal.copy_part-requires-clause-target
copy_part-requires-clause-target g c =
    let m = g.M.Tagged.memory c.args.memory.now in
    let long : length (take c.min-more.result c.loop-done.part) ≡ c.min-more.result = length-take-le c.min-more.result c.loop-done.part (omega arith) in
    let more = c.min-more.ensures in
    open-with-bytes-at m _ c.args.to (c.args.to + c.args.count) _ _
    (λ q. ap (λ t. attrs_at t q) c.loop-done.invariant.memory ∙ attrs_at-after-copy m c.args.from c.args.to c.loop-done.done q)
    c.requires.target (omega arith) (omega arith)

pub loop-done-preserved : goal.loop-done-preserved
loop-done-preserved g c =
    let m = g.M.Tagged.memory c.args.memory.now in
    let from = c.args.from in
    let to = c.args.to in
    let done = c.loop-done.done in
    let more = c.min-more.result in
    let long : length (take more c.loop-done.part) ≡ more = length-take-le more c.loop-done.part (omega arith) in
    let least = c.min-more.ensures in
    let source = c.requires.source.below in
    let target = c.requires.target.below in
    record {
      within = omega arith;
      memory = c.copy_part.ensures.memory ∙ (λ i. after_copy (c.loop-done.invariant.memory i) (from + done) (to + done) (long i))
          ∙ after-copy-more m from to done more (omega arith) (omega arith) (apart-less from to (done + more) c.args.count (omega arith) c.requires.apart);
      kept = g.met.M.Tagged.kept_on _ _ _ c.loop-done.invariant.kept c.copy_part.ensures.kept;
    }

pub returns-clause-memory : goal.returns-clause-memory
returns-clause-memory g c =
    let all : c.loop-done.done ≡ c.args.count = omega arith in
    c.loop-done.invariant.memory ∙ ap (after_copy (g.M.Tagged.memory c.args.memory.now) c.args.from c.args.to) all
