use Rattle.std.proofs.Common.{refl, sym, ap, ◌∙◌, length}
use Rattle.a64_bits.specs.Addresses.{plain}
use Rattle.mte_tags.specs.Accesses.{result_of, addresses, read_access, read_fault, after_read}
use Rattle.mte_tags.proofs.ModeLaws.{access_fault-none, after_access-none}
use Rattle.mte_tags.proofs.by_page.read_at.Goals as goal

pub returns-then-try_read-clause-answer : goal.returns-then-try_read-clause-answer
unfolding read_fault
returns-then-try_read-clause-answer g c =
    ap result_of (sym (access_fault-none _ (read_access c.args.addr c.args.checked) (addresses (plain c.args.addr) (length c.args.buffer.now)) (c.if-try_read.ensures.read.passed refl)))

pub returns-then-try_read-clause-memory : goal.returns-then-try_read-clause-memory
unfolding after_read
returns-then-try_read-clause-memory g c =
    c.if-try_read.ensures.read.memory
    ∙ sym (after_access-none _ (read_access c.args.addr c.args.checked) (addresses (plain c.args.addr) (length c.args.buffer.now)) (c.if-try_read.ensures.read.passed refl))
