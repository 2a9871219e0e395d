use Rattle.std.proofs.Common.{rules, ◌≡◌, ◌<◌, ◌+◌, ◌++◌, [], ◌∷◌, length, set, true, if◌then◌else◌, sym, ap, subst, ◌∙◌, arith}
use Rattle.tombolopan.specs.Traces.{fetched, is_code, Holds}
use Rattle.tombolopan.specs.declared.trace_arrays.TracedInstruction.{TracedInstruction}
use Rattle.tombolopan.proofs.Entering.{holds_more}
use Rattle.tombolopan.proofs.traced_run.enter_instruction.Goals as goal

pub returns : goal.returns
returns c = λ xs old h.
    let q = c.args.request.now in
    let now = c.args.instructions.now in
    let count = c.args.count in
    let v : TracedInstruction = record { step = c.args.step; pc = c.args.pc; word = c.in-Some.word; unused = 0 } in
    let room : count < length old = omega (arith, c.if-count-instructions.false, h.same) in
    let code : is_code q.code_low q.code_high c.args.pc ≡ true = search (rules, c.has_code.ensures, c.if-not-has_code.false) in
    let e : fetched q c.args.step c.args.pc c.args.word ≡ v ∷ [] =
    ap (λ o. fetched q c.args.step c.args.pc o) c.in-Some.is ∙ ap (λ b. if b then v ∷ [] else []) code in
    subst (λ l. Holds (xs ++ l) old (set now count v) (count + 1)) (sym e) (holds_more xs old now count v room h)
