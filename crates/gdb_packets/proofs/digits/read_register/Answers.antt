use Rattle.std.proofs.Common.{length, Some, None, refl, sym, ap, ◌∙◌, arith, inl, inr}
use Rattle.std.proofs.lemmas.Bool.{eqb-true, eqb-false}
use Rattle.gdb_packets.specs.Digits.{hex_bytes}
use Rattle.gdb_packets.proofs.HexLemmas.{register_read, register_again, register_none}
use Rattle.gdb_packets.proofs.digits.read_register.Goals as goal

pub returns-clause-exact : goal.returns-clause-exact
returns-clause-exact c =
    let text = c.args.text.now in
    let some = eqb-false (length text) 0 (sym c.if-is_empty.ensures) in
    ap Some c.from_le_bytes.ensures ∙ register_read text c.read_hex.new.room (hex_bytes text) c.in_ok-read_hex.field-0 refl
    c.in_ok-read_hex.ensures.exact (omega arith) (omega arith)

pub returns-clause-again : goal.returns-clause-again
returns-clause-again c =
    register_again c.args.text.now (Some c.from_le_bytes.result) (returns-clause-exact c)

pub returns-then-is_empty-clause-again : goal.returns-then-is_empty-clause-again
returns-then-is_empty-clause-again c =
    let text = c.args.text.now in
    register_again text None (register_none text (λ some short. elim c.then-is_empty.either [
      | inl none ↦
          let zero = eqb-true (length text) 0 (sym c.is_empty.ensures ∙ none) in
          omega arith
      | inr long ↦ omega (arith, long.1)
    ]))
