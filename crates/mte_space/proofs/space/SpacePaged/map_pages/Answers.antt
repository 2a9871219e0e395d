use Rattle.std.proofs.Common.{◌≡◌, ◌∙◌, ◌+◌, ◌-◌, sym, ap, arith, refl}
use Rattle.mte_tags.specs.Memory.{pages_left}
use Rattle.mte_space.specs.SpaceMemory.{memory_of}
use Rattle.mte_translate.specs.Tables.{pages_of}
use Rattle.mte_space.proofs.RememberedSteps.{pages_stay_up_to_date}
use Rattle.mte_space.proofs.Memories.{pages_left-space, page_missing, unmapped_there}
use Rattle.mte_space.proofs.space.SpacePaged.map_pages.Goals as goal

pub returns-then-count-self-clause-answer : goal.returns-then-count-self-clause-answer
returns-then-count-self-clause-answer c =
    let s = c.args.self.now in
    let left : pages_left (memory_of s) ≡ s.limit - c.len.result = pages_left-space s.pool.now s.table.now s.limit s.state.now s.space.table.len_is ∙ sym (ap (λ k. s.limit - k) c.len.ensures) in
    ((λ h. cc), (λ h. absurd (omega (arith, h, left, c.if-count-self.true))))

pub map_range-requires-clause-free : goal.map_range-requires-clause-free
map_range-requires-clause-free c = λ s i l.
    let self = c.args.self.now in
    page_missing self.pool.now self.table.now self.limit s (c.args.page + i) (unmapped_there self.pool.now self.table.now self.limit self.state.now (c.args.page + i) (c.requires.free i l))

pub returns-clause-answer : goal.returns-clause-answer
returns-clause-answer c =
    let s = c.args.self.now in
    let left : pages_left (memory_of s) ≡ s.limit - c.len.result = pages_left-space s.pool.now s.table.now s.limit s.state.now s.space.table.len_is ∙ sym (ap (λ k. s.limit - k) c.len.ensures) in
    ((λ h. omega (arith, left, c.if-count-self.false)), (λ h. refl))

pub invariant_of-self-2 : goal.invariant_of-self-2
invariant_of-self-2 c =
    let s = c.args.self.now in
    record {
      space = c.map_range.ensures.space;
      cached = c.map_range.ensures.cached s.asid s.tlb.now s.cached;
      up_to_date = pages_stay_up_to_date (pages_of s.pool.now s.table.now.frame) _ s.remembered.now c.map_range.ensures.cached s.up_to_date;
    }
