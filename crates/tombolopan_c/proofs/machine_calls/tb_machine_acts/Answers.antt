use Rattle.std.proofs.Common.{◌≡◌, rules, Ok, Err, sym}
use Rattle.mte_tenant.specs.Machines.{machine_of}
use Rattle.tombolopan_c.specs.LentMachines.{lent_machine}
use Rattle.tombolopan_c.proofs.machine_calls.tb_machine_acts.Goals.{in-Ok, in-Err}
use Rattle.tombolopan_c.proofs.machine_calls.tb_machine_acts.Goals as goal

pub returns-clause-acted : goal.returns-clause-acted
returns-clause-acted c = elim c.match-new.branch [
  | in-Ok w ↦
      let start : machine_of w.in-Ok.machine.parts w.in-Ok.machine.memory ≡ lent_machine c.args.terms.now = search rules in
      record {
        answer = Ok (machine_of w.make_acts.new.lone.parts w.make_acts.new.lone.memory);
        is = (search rules, λ d. rw (sym start) (w.make_acts.ensures.machine d));
        answers = λ k d l. rw w.acts-is (rw (sym start) (w.make_acts.ensures.answers k d l));
        regs = search rules;
        buffers = search rules;
        told = search rules;
      }
  | in-Err w ↦ record {
    answer = Err w.in-Err.obstacle;
    is = (search rules, search rules);
    answers = search rules;
    regs = search rules;
    buffers = search rules;
    told = search rules;
  }
]
