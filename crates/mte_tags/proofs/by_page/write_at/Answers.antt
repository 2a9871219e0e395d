use Rattle.std.proofs.Common.{refl, sym, ap, ◌∙◌, length}
use Rattle.a64_bits.specs.Addresses.{plain}
use Rattle.mte_tags.specs.Accesses.{result_of, addresses, with_bytes, with_bytes_at, write_access, write_fault, after_write}
use Rattle.mte_tags.proofs.ModeLaws.{access_fault-none, after_access-none}
use Rattle.mte_tags.proofs.by_page.write_at.Goals as goal

pub returns-then-try_write-clause-answer : goal.returns-then-try_write-clause-answer
unfolding write_fault
returns-then-try_write-clause-answer g c =
    ap result_of (sym (access_fault-none _ (write_access c.args.addr c.args.checked) (addresses (plain c.args.addr) (length c.args.bytes.now)) (c.if-try_write.ensures.written.passed refl)))

pub returns-then-try_write-clause-memory : goal.returns-then-try_write-clause-memory
unfolding after_write with_bytes_at
returns-then-try_write-clause-memory g c =
    let places = addresses (plain c.args.addr) (length c.args.bytes.now) in
    c.if-try_write.ensures.written.memory
    ∙ ap (λ k. with_bytes k places c.args.bytes.now) (sym (after_access-none _ (write_access c.args.addr c.args.checked) places (c.if-try_write.ensures.written.passed refl)))
