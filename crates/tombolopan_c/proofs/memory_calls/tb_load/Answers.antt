use Rattle.std.proofs.Common.{◌≡◌, ◌∙◌, sym, subst, length, true}
use Rattle.mte_tags.specs.Memory.{Memory}
use Rattle.mte_tags.specs.Accesses.{addresses, AreMapped}
use Rattle.tombolopan_c.specs.MemoryCodes.{all_mapped}
use Rattle.tombolopan_c.specs.LentPages.{lent_memory, state_of}
use Rattle.tombolopan_c.proofs.Loads.{are_all}
use Rattle.tombolopan_c.proofs.memory_calls.tb_load.Goals as goal

pub replace_bytes-requires-clause-mapped : goal.replace_bytes-requires-clause-mapped
replace_bytes-requires-clause-mapped c =
    let s = state_of c.args.state.now in
    let at = addresses c.plain-at.result (length c.args.bytes.now) in
    let all : all_mapped (lent_memory s c.args.pages.now) at ≡ true = sym (c.are_mapped.ensures s) ∙ c.if-not-are_mapped.false in
    subst (λ (m : Memory). AreMapped m at) (sym c.new-memory.ensures.memory) (are_all _ at all)
