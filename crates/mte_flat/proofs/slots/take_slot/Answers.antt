use Rattle.std.proofs.Common.{◌≡◌, ◌∙◌, ◌<◌, true, length, ap, arith}
use Rattle.std.proofs.lemmas.List.{get_or_default}
use Rattle.mte_tags.specs.Memory.{Memory, without_page}
use Rattle.mte_flat.specs.Inner.Slots.{slots_memory, entry_of}
use Rattle.mte_flat.specs.declared.slot.Slot.{Slot}
use Rattle.mte_flat.proofs.Places.{slots_memory-swap_remove}
use Rattle.mte_flat.proofs.Unwritten.{memory_set}
use Rattle.mte_flat.proofs.slots.take_slot.Goals as goal

pub returns-then-s-len-clause-memory : goal.returns-then-s-len-clause-memory
returns-then-s-len-clause-memory c = λ m d.
    let items = c.args.slots.now.items in
    let s = c.args.s in
    let r = c.swap_remove.result in
    let left = c.swap_remove.new.self.items in
    let there : s < length left = omega (arith, c.swap_remove.new.self.ok.0) in
    memory_set m left s (record c.index_mut.result.now { written = true })
    (ap entry_of (c.index_mut.ensures.value ∙ get_or_default left s _ _ there))
    ∙ ap (slots_memory m) c.swap_remove.ensures.items
    ∙ slots_memory-swap_remove m items s _ r c.requires.slots c.requires.there (ap (λ (t : Slot). t.page) (get_or_default items s r d c.requires.there))

pub returns-else-s-len-clause-memory : goal.returns-else-s-len-clause-memory
returns-else-s-len-clause-memory c = λ m d.
    let items = c.args.slots.now.items in
    let s = c.args.s in
    let r = c.swap_remove.result in
    ap (slots_memory m) c.swap_remove.ensures.items
    ∙ slots_memory-swap_remove m items s _ r c.requires.slots c.requires.there (ap (λ (t : Slot). t.page) (get_or_default items s r d c.requires.there))
