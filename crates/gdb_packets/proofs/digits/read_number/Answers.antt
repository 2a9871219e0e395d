use Rattle.std.proofs.Common.{arith, length, None, sym, ◌∙◌, inl, inr, ℕ, SomeIff}
use Rattle.std.proofs.lemmas.Bool.{eqb-true, eqb-false}
use Rattle.std.specs.Str.Parse.{digits_value}
use Rattle.gdb_packets.proofs.NumberLemmas.{IsNumber, number_is, number_again, number_by}
use Rattle.gdb_packets.proofs.digits.read_number.Goals as goal

outside : (c : goal.Joined-then-is_empty) → SomeIff {T = ℕ} None (IsNumber c.args.text.now) (digits_value 16 c.args.text.now)
outside c = λ n. elim c.then-is_empty.either [
  | inl none ↦
      let zero = eqb-true (length c.args.text.now) 0 (sym c.is_empty.ensures ∙ none) in
      omega (arith, n.numeral.0)
  | inr some ↦ omega (arith, n.short, some.1)
]

pub returns-then-is_empty-clause-exact : goal.returns-then-is_empty-clause-exact
returns-then-is_empty-clause-exact c = number_is c.args.text.now None (outside c)

pub returns-then-is_empty-clause-again : goal.returns-then-is_empty-clause-again
returns-then-is_empty-clause-again c = number_again c.args.text.now None (outside c)

inside : (c : goal.After-digits_number) → SomeIff c.digits_number.result (IsNumber c.args.text.now) (digits_value 16 c.args.text.now)
inside c =
    let some = eqb-false (length c.args.text.now) 0 (sym c.if-is_empty.ensures) in
    number_by c.args.text.now c.digits_number.result c.digits_number.ensures (omega arith) (omega arith)

pub returns-clause-exact : goal.returns-clause-exact
returns-clause-exact c = number_is c.args.text.now c.digits_number.result (inside c)

pub returns-clause-again : goal.returns-clause-again
returns-clause-again c = number_again c.args.text.now c.digits_number.result (inside c)
