use Rattle.std.proofs.Common.{◌≡◌, ◌∙◌, Ok, None, is_ok, ap, false}
use Rattle.std.proofs.lemmas.Bool.{cond-true}
use Rattle.a64_bits.specs.Addresses.{plain, address_tag}
use Rattle.mte_tags.proofs.AddressLists.{none_from_ok}
use Rattle.mte_tags.specs.Memory.{with_granules}
use Rattle.mte_tags.specs.Accesses.{after_write, result_of, tags_fault, write_fault}
use Rattle.a64_step.specs.LoadStorePair.{pair_bytes, pair_unit}
use Rattle.a64_step.proofs.GranuleWrites.{granule_writable, written_unchecked}
use Rattle.a64_step.proofs.memory_tagging.store_granule.Goals as goal

pub returns-clause-memory : goal.returns-clause-memory
unfolding pair_unit
returns-clause-memory g c =
    let m = g.M.Tagged.memory c.args.memory.now in
    let a = c.args.address in
    let n = with_granules m (plain a) 1 (address_tag a) false in
    let bytes = pair_bytes 2 c.args.values.first c.args.values.second in
    let tagged : g.M.Tagged.memory c.store_tags.new.self ≡ n =
    c.in_default.ensures.memory ∙ ap (λ t. with_granules m (plain a) 1 t false) c.tag_of.ensures in
    let fine : tags_fault m a 1 ≡ None = none_from_ok _ _ c.in_default.ensures.answer in
    let ok : c.write_pair.result ≡ Ok tt =
    c.write_pair.ensures.answer
    ∙ ap (λ k. result_of (write_fault k a 16 false)) tagged
    ∙ ap result_of (granule_writable m a (address_tag a) fine) in
    c.write_pair.ensures.memory
    ∙ cond-true _ _ _ (ap is_ok ok)
    ∙ ap (λ k. after_write k a bytes false) tagged
    ∙ written_unchecked n a bytes
