use Rattle.std.proofs.Common.{◌+◌, length, is_ok, sym, ap, subst, ◌∙◌, refl}
use Rattle.std.proofs.lemmas.Bool.{cond-true}
use Rattle.mte_tags.specs.Accesses.{result_of, with_bytes_at}
use Rattle.mte_tags.proofs.ByteLaws.{length-read_bytes}
use Rattle.scudo_heap.specs.Realloc.{after_copy}
use Rattle.scudo_heap.specs.Inner.{IsOpen}
use Rattle.scudo_heap.proofs.OpenLemmas.{open-mapped, either_way}
use Rattle.scudo_heap.proofs.CopyLemmas.{read_open}
use Rattle.scudo_heap.proofs.copying.copy_part.Goals as goal

pub load_bytes-requires : goal.load_bytes-requires
load_bytes-requires g c =
    let m = g.M.Tagged.memory c.args.memory.now in
    let n = length c.args.part.now in
    let none = read_open m c.args.from n n refl c.requires.source in
    let bytes = c.read.ensures.bytes ∙ cond-true _ _ _ (ap is_ok (c.read.ensures.answer ∙ ap result_of none)) in
    let same = c.read.ensures.memory ∙ either_way (is_ok c.read.result) m c.args.from n in
    open-mapped _ c.args.to _ n (ap length bytes ∙ length-read_bytes m c.args.from n)
    (subst (λ t. IsOpen t c.args.to (c.args.to + n)) (sym same) c.requires.target)

pub returns-clause-memory : goal.returns-clause-memory
unfolding after_copy
returns-clause-memory g c =
    let m = g.M.Tagged.memory c.args.memory.now in
    let n = length c.args.part.now in
    let none = read_open m c.args.from n n refl c.requires.source in
    let bytes = c.read.ensures.bytes ∙ cond-true _ _ _ (ap is_ok (c.read.ensures.answer ∙ ap result_of none)) in
    let same = c.read.ensures.memory ∙ either_way (is_ok c.read.result) m c.args.from n in
    c.load_bytes.ensures.memory ∙ (λ i. with_bytes_at (same i) c.args.to (bytes i))
