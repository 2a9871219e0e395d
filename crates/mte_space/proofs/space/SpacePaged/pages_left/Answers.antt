use Rattle.std.proofs.Common.{◌≡◌, ◌∙◌, ◌-◌, sym, ap}
use Rattle.mte_tags.specs.Memory.{pages_left}
use Rattle.mte_space.specs.SpaceMemory.{memory_of}
use Rattle.mte_space.proofs.Memories.{pages_left-space}
use Rattle.mte_space.proofs.space.SpacePaged.pages_left.Goals as goal

pub returns-clause-answer : goal.returns-clause-answer
returns-clause-answer c =
    let s = c.args.self.now in
    let left : pages_left (memory_of s) ≡ s.limit - c.len-mapped.result = pages_left-space s.pool.now s.table.now s.limit s.state.now s.space.table.len_is ∙ sym (ap (λ k. s.limit - k) c.len-mapped.ensures) in
    sym left
