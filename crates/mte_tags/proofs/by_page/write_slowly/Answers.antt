use Rattle.std.proofs.Common.{refl, sym, ap, ◌∙◌, length}
use Rattle.a64_bits.specs.Addresses.{plain}
use Rattle.mte_tags.specs.Accesses.{result_of, addresses, with_bytes, write_access}
use Rattle.mte_tags.proofs.ModeLaws.{access_fault-none, after_access-none}
use Rattle.mte_tags.proofs.by_page.write_slowly.Goals as goal

pub returns-then-try_write_unaligned-clause-written : goal.returns-then-try_write_unaligned-clause-written
returns-then-try_write_unaligned-clause-written g c =
    let made = c.if-try_write_unaligned.ensures.written in
    let none = made.passed refl in
    let x = write_access c.args.addr c.args.checked in
    let places = addresses (plain c.args.addr) (length c.args.bytes.now) in
    record {
      answer = ap result_of (sym (access_fault-none _ x places none));
      memory = made.memory ∙ ap (λ k. with_bytes k places c.args.bytes.now) (sym (after_access-none _ x places none));
    }
