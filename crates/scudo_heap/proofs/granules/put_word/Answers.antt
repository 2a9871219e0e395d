use Rattle.std.proofs.Common.{◌≡◌, ◌-◌, ap, ◌∙◌, length, arith}
use Rattle.mte_tags.specs.Accesses.{with_bytes_at}
use Rattle.scudo_heap.proofs.OpenLemmas.{bytes_written}
use Rattle.scudo_heap.proofs.granules.put_word.Goals as goal

pub returns-clause-memory : goal.returns-clause-memory
returns-clause-memory g c =
    let m = g.M.Tagged.memory c.args.memory.now in
    let eight : length c.to_le_bytes.result ≡ 8 = ap length c.to_le_bytes.ensures in
    let o = c.requires.open in
    let up = c.requires.above in
    let below = o.below in
    bytes_written m _ (c.args.user - 16) _ _ c.write.ensures.answer c.write.ensures.memory
    (record { pages = λ a l h. o.pages a l (omega arith); below = omega arith })
    ∙ ap (λ bs. with_bytes_at m (c.args.user - 16) bs) c.to_le_bytes.ensures
