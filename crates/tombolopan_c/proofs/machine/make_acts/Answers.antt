use Rattle.std.proofs.Common.{rules, ◌≡◌, ◌<◌, ◌∙◌, length, get_or, refl, sym, ap, inl, inr, arith, get_or-set_same, get_or-set_other}
use Rattle.std.proofs.lemmas.Bool.{cases_eq}
use Rattle.std.proofs.lemmas.List.{get_or_default}
use Rattle.mte_tenant.specs.Machines.{machine_of}
use Rattle.tombolopan_c.specs.Faults.{no_fault}
use Rattle.tombolopan_c.specs.Machines.{machine_before, after_act}
use Rattle.tombolopan_c.specs.declared.act.MachineAct.{MachineAct}
use Rattle.tombolopan_c.proofs.ActLists.{machine_first, machine_next}
use Rattle.tombolopan_c.proofs.machine.make_acts.Goals as goal

abbrev any_act : MachineAct
any_act = record { act = 0; number = 0; addr = 0; value = 0; answer = 0; code = 0; unused = 0; fault = no_fault }

pub loop-act-init : goal.loop-act-init
loop-act-init c =
    ((λ d. sym (machine_first _ c.args.acts.now d)), ((λ k d l. absurd (omega (arith, l))), (λ k d l. refl)))

pub loop-act-preserved : goal.loop-act-preserved
loop-act-preserved c =
    let acts = c.loop-act.acts in
    let old = c.args.acts.now in
    let i = c.loop-act.act-index in
    let m = machine_of c.args.lone.now.parts c.args.lone.now.memory in
    let now = machine_of c.loop-act.lone.parts c.loop-act.lone.memory in
    let inv = c.loop-act.invariant in
    let at : i < length acts = omega (arith, c.loop-act-test.true, c.loop-act.auto.acts) in
    let here : (d : MachineAct) → get_or acts i any_act ≡ get_or old i d =
    λ d. get_or_default acts i any_act d at ∙ inv.1.1 i d (omega arith) in
    let given : (d : MachineAct) → after_act now (get_or acts i any_act) ≡ after_act (machine_before m old i d) (get_or old i d) =
    λ d. ap (λ b. after_act b (get_or acts i any_act)) (inv.0 d) ∙ ap (λ x. after_act (machine_before m old i d) x) (here d) in (
      (λ d. c.make_act.ensures.machine ∙ ap (λ x. x.machine) (given d) ∙ sym (machine_next m old i d)),
      (
        (λ k d l. elim (cases_eq k i) [
          | inl e ↦ rw e (get_or-set_same acts i c.make_act.result d at ∙ c.make_act.ensures.act ∙ ap (λ x. x.act) (given d))
          | inr n ↦ get_or-set_other acts i k c.make_act.result d n ∙ inv.1.0 k d (omega (arith, l, n))
        ]),
        (λ k d l. get_or-set_other acts i k c.make_act.result d (λ e. omega (arith, l, e)) ∙ inv.1.1 k d (omega (arith, l))),
      ),
    )
