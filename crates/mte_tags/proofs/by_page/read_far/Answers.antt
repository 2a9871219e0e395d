use Rattle.std.proofs.Common.{refl, sym, ap, ◌∙◌, length}
use Rattle.a64_bits.specs.Addresses.{plain}
use Rattle.mte_tags.specs.Accesses.{result_of, addresses, read_access}
use Rattle.mte_tags.proofs.ModeLaws.{access_fault-none, after_access-none}
use Rattle.mte_tags.proofs.by_page.read_far.Goals as goal

pub returns-then-try_read_unaligned-clause-read : goal.returns-then-try_read_unaligned-clause-read
returns-then-try_read_unaligned-clause-read g c =
    let made = c.if-try_read_unaligned.ensures.read in
    let none = made.passed refl in
    let x = read_access c.args.addr c.args.checked in
    let places = addresses (plain c.args.addr) (length c.args.buffer.now) in
    record {
      answer = ap result_of (sym (access_fault-none _ x places none));
      bytes = made.bytes;
      memory = made.memory ∙ sym (after_access-none _ x places none);
    }
