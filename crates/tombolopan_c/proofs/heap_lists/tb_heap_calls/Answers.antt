use Rattle.std.proofs.Common.{rules, ◌≡◌, ◌<◌, ◌∙◌, length, get_or, refl, sym, ap, inl, inr, arith, get_or-set_same, get_or-set_other}
use Rattle.std.proofs.lemmas.Bool.{cases_eq}
use Rattle.std.proofs.lemmas.List.{get_or_default}
use Rattle.tombolopan_c.specs.HeapCalls.{start_of, world_before, after_heap_call}
use Rattle.tombolopan_c.specs.declared.lent_heap.LentHeapCall.{LentHeapCall}
use Rattle.tombolopan_c.specs.Faults.{no_fault}
use Rattle.tombolopan_c.proofs.HeapLists.{world_first, world_next}
use Rattle.tombolopan_c.proofs.heap_lists.tb_heap_calls.Goals as goal

abbrev any_call : LentHeapCall
any_call = record { op = 0; code = 0; first = 0; second = 0; answer = 0; fault = no_fault }

pub loop-call-init : goal.loop-call-init
loop-call-init c =
    let start : c.in-Ok.bench ≡ start_of c.args.setup.now = search (rules, c.in-Ok.ensures, c.mode-mode.ensures, c.rgsr-rgsr.ensures.rgsr) in
    ((λ d. start ∙ sym (world_first (start_of c.args.setup.now) c.args.calls.now d)), ((λ k d l. absurd (omega (arith, l))), (λ k d l. refl)))

pub loop-call-preserved : goal.loop-call-preserved
loop-call-preserved c =
    let calls = c.loop-call.calls in
    let old = c.args.calls.now in
    let i = c.loop-call.call-index in
    let w = start_of c.args.setup.now in
    let inv = c.loop-call.invariant in
    let at : i < length calls = omega (arith, c.loop-call-test.true, c.loop-call.auto.calls) in
    let here : (d : LentHeapCall) → get_or calls i any_call ≡ get_or old i d =
    λ d. get_or_default calls i any_call d at ∙ inv.1.1 i d (omega arith) in
    let given : (d : LentHeapCall) → after_heap_call c.loop-call.bench (get_or calls i any_call) ≡ after_heap_call (world_before w old i d) (get_or old i d) =
    λ d. ap (λ b. after_heap_call b (get_or calls i any_call)) (inv.0 d) ∙ ap (λ x. after_heap_call (world_before w old i d) x) (here d) in (
      (λ d. c.make.ensures.world ∙ ap (λ m. m.world) (given d) ∙ sym (world_next w old i d)),
      (
        (λ k d l. elim (cases_eq k i) [
          | inl e ↦ rw e (get_or-set_same calls i c.make.result d at ∙ c.make.ensures.call ∙ ap (λ m. m.call) (given d))
          | inr n ↦ get_or-set_other calls i k c.make.result d n ∙ inv.1.0 k d (omega (arith, l, n))
        ]),
        (λ k d l. get_or-set_other calls i k c.make.result d (λ e. omega (arith, l, e)) ∙ inv.1.1 k d (omega (arith, l))),
      ),
    )

pub returns-clause-answers : goal.returns-clause-answers
returns-clause-answers c = λ o k d l. c.loop-call.invariant.1.0 k d (omega arith)
