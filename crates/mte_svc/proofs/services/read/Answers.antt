use Rattle.std.proofs.Common.{◌∙◌, ap, true}
use Rattle.mte_tags.specs.Memory.{attrs_at, pages_left}
use Rattle.mte_tags.proofs.StateLaws.{attrs-after_write, left-after_write}
use Rattle.mte_svc.proofs.services.read.Goals as goal

pub returns-in-Ok-clause-ready : goal.returns-in-Ok-clause-ready
returns-in-Ok-clause-ready g c =
    let same = c.in-Ok.ensures.memory in
    record {
      heap = rw (c.answer.ensures.heap)
          (c.condition_of_calls.ensures.same (g.M.Tagged.memory c.args.memory.now) (g.M.Tagged.memory c.copy_to.new.memory) c.args.parts.now.heap c.requires.ready.heap
          (λ q. ap (λ m. attrs_at m q) same ∙ attrs-after_write (g.M.Tagged.memory c.args.memory.now) _ _ true q)
          (ap pages_left same ∙ left-after_write (g.M.Tagged.memory c.args.memory.now) _ _ true));
      tag = rw (c.answer.ensures.rgsr) c.requires.ready.tag;
    }
