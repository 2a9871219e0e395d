-- The machines between acts.
use Rattle.std.proofs.Common.{◌≡◌, ℕ, suc, ◌+◌, ◌∙◌, List, get_or, refl, ap, arith}
use Rattle.mte_tenant.specs.Machines.{Machine}
use Rattle.tombolopan_c.specs.Machines.{machine_before, after_act}
use Rattle.tombolopan_c.specs.declared.act.MachineAct.{MachineAct}

pub machine_first : (m : Machine) (acts : List MachineAct) (d : MachineAct) → machine_before m acts 0 d ≡ m
unfolding machine_before
machine_first m acts d = refl

machine_suc : (m : Machine) (acts : List MachineAct) (k : ℕ) (d : MachineAct) → machine_before m acts (suc k) d ≡ (after_act (machine_before m acts k d) (get_or acts k d)).machine
unfolding machine_before
machine_suc m acts k d = refl

pub machine_next : (m : Machine) (acts : List MachineAct) (k : ℕ) (d : MachineAct) → machine_before m acts (k + 1) d ≡ (after_act (machine_before m acts k d) (get_or acts k d)).machine
machine_next m acts k d =
    let next : k + 1 ≡ suc k = omega arith in
    ap (λ n. machine_before m acts n d) next ∙ machine_suc m acts k d
