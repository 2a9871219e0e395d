use Rattle.std.proofs.Common.{◌≡◌, ◌∙◌, ap, arith, ◌-◌}
use Rattle.mte_tags.specs.Memory.{Memory, page_at, attrs_at, pages_left}
use Rattle.mte_tags.proofs.PageLaws.{attrs_at-with_new_pages_out}
use Rattle.mte_elf.specs.Headers.{segments_of}
use Rattle.mte_elf.specs.Images.{pages_of}
use Rattle.mte_tenant.proofs.MachineLemmas.{none-no_pages, left-no_pages, first_memory_by}
use Rattle.mte_tenant.proofs.MachineLemmas.{limit-with_new_pages, limit-with_segments, limit-no_pages, attrs-none}
use Rattle.mte_tenant.proofs.machine.fill.Goals as goal

pub load-requires-clause-free : goal.load-requires-clause-free
load-requires-clause-free g c = λ page h. ap (λ m. page_at m page) c.requires.empty ∙ none-no_pages c.args.pages c.args.mode page

pub load-requires-clause-room : goal.load-requires-clause-room
load-requires-clause-room g c =
    let left : pages_left (g.M.Tagged.memory c.args.memory.now) ≡ c.args.pages = ap pages_left c.requires.empty ∙ left-no_pages c.args.pages c.args.mode in
    omega (arith, c.requires.room)

pub map_stack-requires-clause-free : goal.map_stack-requires-clause-free
map_stack-requires-clause-free g c = λ page h. c.load.ensures.above page h (ap (λ m. page_at m page) c.requires.empty ∙ none-no_pages c.args.pages c.args.mode page)

pub map_stack-requires-clause-room : goal.map_stack-requires-clause-room
map_stack-requires-clause-room g c =
    let left : pages_left (g.M.Tagged.memory c.args.memory.now) ≡ c.args.pages = ap pages_left c.requires.empty ∙ left-no_pages c.args.pages c.args.mode in
    let after : pages_left (g.M.Tagged.memory c.load.new.memory) ≡ pages_left (g.M.Tagged.memory c.args.memory.now) - pages_of c.args.image.now = c.load.ensures.left in
    omega (arith, c.requires.room)

pub returns-clause-memory : goal.returns-clause-memory
returns-clause-memory g c = first_memory_by _ _ _ _ _ _ c.requires.empty c.load.ensures.memory c.map_stack.ensures.memory

pub returns-clause-limit : goal.returns-clause-limit
returns-clause-limit g c =
    ap (λ (m : Memory). m.limit) c.map_stack.ensures.memory
    ∙ limit-with_new_pages _ (g.M.Tagged.memory c.load.new.memory) _ _
    ∙ ap (λ (m : Memory). m.limit) c.load.ensures.memory
    ∙ limit-with_segments c.args.image.now (g.M.Tagged.memory c.args.memory.now) (segments_of c.args.image.now)
    ∙ ap (λ (m : Memory). m.limit) c.requires.empty
    ∙ limit-no_pages c.args.pages c.args.mode

pub returns-clause-untouched : goal.returns-clause-untouched
returns-clause-untouched g c = λ q lo hi.
    ap (λ m. attrs_at m q) c.map_stack.ensures.memory
    ∙ attrs_at-with_new_pages_out _ (g.M.Tagged.memory c.load.new.memory) _ _ q (λ l h. absurd (omega arith))
    ∙ attrs-none (g.M.Tagged.memory c.load.new.memory) q
    (c.load.ensures.above q (omega arith) (ap (λ m. page_at m q) c.requires.empty ∙ none-no_pages c.args.pages c.args.mode q))
