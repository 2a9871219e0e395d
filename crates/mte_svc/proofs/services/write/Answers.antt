use Rattle.std.proofs.Common.{◌∙◌, ap, true}
use Rattle.mte_tags.specs.Memory.{attrs_at, pages_left}
use Rattle.mte_tags.proofs.StateLaws.{attrs-after_read, left-after_read}
use Rattle.mte_svc.proofs.services.write.Goals as goal

pub returns-in-Ok-clause-ready : goal.returns-in-Ok-clause-ready
returns-in-Ok-clause-ready g c =
    let same = c.in-Ok.ensures.memory in
    record {
      heap = rw (c.answer.ensures.heap)
          (c.condition_of_calls.ensures.same (g.M.Tagged.memory c.args.memory.now) (g.M.Tagged.memory c.append_from.new.memory) c.args.parts.now.heap c.requires.ready.heap
          (λ q. ap (λ m. attrs_at m q) same ∙ attrs-after_read (g.M.Tagged.memory c.args.memory.now) _ _ true q)
          (ap pages_left same ∙ left-after_read (g.M.Tagged.memory c.args.memory.now) _ _ true));
      tag = rw (c.answer.ensures.rgsr) c.requires.ready.tag;
    }
