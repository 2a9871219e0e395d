use Rattle.std.proofs.Common.{◌≡◌, ◌+◌, ◌∙◌, Ok, Err, sym, ap, subst}
use Rattle.mte_tags.specs.Memory.{tag_at}
use Rattle.scudo_heap.specs.Heaps.{heap_of}
use Rattle.scudo_heap.specs.Placing.{world_of}
use Rattle.scudo_heap.specs.Freeing.{Freed, free_cases, free_of, without_chunk}
use Rattle.scudo_heap.specs.Realloc.{user_of}
use Rattle.scudo_heap.specs.Inner.{IsOpen}
use Rattle.scudo_heap.proofs.FoundLemmas.{check-pointer-is, check-plain, found-user}
use Rattle.scudo_heap.proofs.FreeLemmas.{free-null, free-by}
use Rattle.scudo_heap.proofs.PartLemmas.{parts-of, sound-after-free}
use Rattle.scudo_heap.proofs.heap.Heap.free.Given as given
use Rattle.scudo_heap.proofs.heap.Heap.free.Goals as goal

pub returns-then-pointer-eq0-clause-answer : goal.returns-then-pointer-eq0-clause-answer
returns-then-pointer-eq0-clause-answer g c = ap (λ (f : Freed). f.result) (free-null (world_of (g.M.Tagged.memory c.args.memory.now) c.args.self.now c.args.rgsr.now) c.args.pointer c.if-pointer-eq0.true)

pub returns-then-pointer-eq0-clause-world : goal.returns-then-pointer-eq0-clause-world
returns-then-pointer-eq0-clause-world g c = ap (λ (f : Freed). f.world) (free-null (world_of (g.M.Tagged.memory c.args.memory.now) c.args.self.now c.args.rgsr.now) c.args.pointer c.if-pointer-eq0.true)

pub free_found-requires-clause-found : goal.free_found-requires-clause-found
free_found-requires-clause-found g c =
    let p = c.self.inside.parts in
    check-pointer-is (g.M.Tagged.memory c.args.memory.now) _ c.plain-user.result c.in-Ok-check_word.found (sym (c.in-Ok-check_word.ensures.answer ∙ c.in-Ok.ensures.word (heap_of p.cookie p.stacks p.maps)))

pub free_found-requires-clause-known : goal.free_found-requires-clause-known
free_found-requires-clause-known g c = λ o.
    let m = g.M.Tagged.memory c.args.memory.now in
    let p = c.self.inside.parts in
    let user = c.plain-user.result in
    let f = c.in-Ok-check_word.found in
    let same : user_of f ≡ user = found-user (heap_of p.cookie p.stacks p.maps) user _ f (sym c.in-Ok-check_word.ensures.answer) in
    let there : IsOpen m user (user + 1) = subst (λ t. IsOpen t user (user + 1)) c.read_header.ensures.memory (subst (λ a. IsOpen (g.M.Tagged.memory c.read_header.new.memory) a (a + 1)) same o) in
    c.in-Ok.ensures.tag there ∙ ap (tag_at m) (sym same) ∙ ap (λ t. tag_at t (user_of f)) (sym c.read_header.ensures.memory)

refused : (g : given.Over) (c : goal.In-Err g) → (let w = world_of (g.M.Tagged.memory c.args.memory.now) c.args.self.now c.args.rgsr.now in free_cases w (Err c.in-Err.abort) ≡ free_of w c.args.pointer)
refused g c =
    let p = c.self.inside.parts in
    free-by _ c.args.pointer _ c.if-pointer-eq0.false (check-plain _ _ _ _ _ _ (c.in-Err.ensures.abort (heap_of p.cookie p.stacks p.maps)) c.self.view_is c.plain-user.ensures)

refused-word : (g : given.Over) (c : goal.In-Err-check_word g) → (let w = world_of (g.M.Tagged.memory c.args.memory.now) c.args.self.now c.args.rgsr.now in free_cases w (Err c.in-Err-check_word.abort) ≡ free_of w c.args.pointer)
refused-word g c =
    let p = c.self.inside.parts in
    free-by _ c.args.pointer _ c.if-pointer-eq0.false
    (check-plain _ _ _ _ _ _ (c.in-Err-check_word.ensures.answer ∙ c.in-Ok.ensures.word (heap_of p.cookie p.stacks p.maps)) c.self.view_is c.plain-user.ensures)

freed : (g : given.Over) (c : goal.After-free_found g) → (let w = world_of (g.M.Tagged.memory c.args.memory.now) c.args.self.now c.args.rgsr.now in free_cases w (Ok c.in-Ok-check_word.found) ≡ free_of w c.args.pointer)
freed g c =
    let p = c.self.inside.parts in
    free-by _ c.args.pointer _ c.if-pointer-eq0.false
    (check-plain _ _ _ _ _ _ (c.in-Ok-check_word.ensures.answer ∙ c.in-Ok.ensures.word (heap_of p.cookie p.stacks p.maps)) c.self.view_is c.plain-user.ensures)

pub returns-in-Err-clause-answer : goal.returns-in-Err-clause-answer
returns-in-Err-clause-answer g c = ap (λ (f : Freed). f.result) (refused g c)

pub returns-in-Err-clause-world : goal.returns-in-Err-clause-world
returns-in-Err-clause-world g c = ap (λ t. world_of t c.args.self.now c.args.rgsr.now) c.read_header.ensures.memory ∙ ap (λ (f : Freed). f.world) (refused g c)

pub returns-in-Err-check_word-clause-answer : goal.returns-in-Err-check_word-clause-answer
returns-in-Err-check_word-clause-answer g c = ap (λ (f : Freed). f.result) (refused-word g c)

pub returns-in-Err-check_word-clause-world : goal.returns-in-Err-check_word-clause-world
returns-in-Err-check_word-clause-world g c = ap (λ t. world_of t c.args.self.now c.args.rgsr.now) c.read_header.ensures.memory ∙ ap (λ (f : Freed). f.world) (refused-word g c)

pub returns-in-Ok-check_word-clause-answer : goal.returns-in-Ok-check_word-clause-answer
returns-in-Ok-check_word-clause-answer g c = ap (λ (f : Freed). f.result) (freed g c)

pub returns-in-Ok-check_word-clause-world : goal.returns-in-Ok-check_word-clause-world
returns-in-Ok-check_word-clause-world g c =
    let p = c.self.inside.parts in
    let f = c.in-Ok-check_word.found in
    c.free_found.ensures.world
    ∙ ap (λ t. without_chunk (world_of t (heap_of p.cookie p.stacks p.maps) c.args.rgsr.now) f) c.read_header.ensures.memory
    ∙ ap (λ h. without_chunk (world_of (g.M.Tagged.memory c.args.memory.now) h c.args.rgsr.now) f) c.self.view_is
    ∙ ap (λ (f : Freed). f.world) (freed g c)

pub invariant_of-self : goal.invariant_of-self
invariant_of-self g c =
    let p = c.self.inside.parts in
    parts-of _ (sound-after-free _ _ _ _ _ _ _ _ c.self.view_is c.self.invariant c.requires.served c.read_header.ensures.memory
    (c.in-Ok-check_word.ensures.answer ∙ c.in-Ok.ensures.word (heap_of p.cookie p.stacks p.maps)) c.free_found.ensures.world)

pub returns-in-Ok-check_word-clause-served : goal.returns-in-Ok-check_word-clause-served
returns-in-Ok-check_word-clause-served g c =
    let p = c.self.inside.parts in
    (sound-after-free _ _ _ _ _ _ _ _ c.self.view_is c.self.invariant c.requires.served c.read_header.ensures.memory
    (c.in-Ok-check_word.ensures.answer ∙ c.in-Ok.ensures.word (heap_of p.cookie p.stacks p.maps)) c.free_found.ensures.world).owned
