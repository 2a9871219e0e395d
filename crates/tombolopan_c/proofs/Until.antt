-- How a run goes on that also stops at some addresses, and how it stops.
use Rattle.std.proofs.Common.{◌≡◌, ℕ, zero, suc, ◌-◌, ◌<◌, ◌∙◌, List, ap, sym, arith, Some, None, refl, true, false}
use Rattle.std.proofs.lemmas.Bool.{cond-true, cond-false}
use Rattle.mte_tags.specs.Memory.{Memory}
use Rattle.a64_registers.specs.declared.registers.Regs.{Regs}
use Rattle.a64_step.specs.declared.outcome.Outcome.{Outcome}
use Rattle.a64_step.specs.declared.outcome.Outcome.TheVariants.{Next, Svc, Fault}
use Rattle.a64_step.specs.declared.outcome.Outcome.TheVariants.{Illegal, Breakpoint}
use Rattle.a64_step.specs.Results.{Stepped}
use Rattle.a64_step.specs.Steps.{step_of}
use Rattle.tombolopan_c.specs.RunsUntil.{run_until_of, goes_on, is_among, RanUntil}

went_on : (o : Outcome) (a b : RanUntil) → o ≡ Next → goes_on o a b ≡ a
went_on o a b e = ap (λ p. goes_on p a b) e

stopped : (o : Outcome) (a b : RanUntil) → (o ≡ Next → ⊥) → goes_on o a b ≡ b
stopped Next a b n = absurd (n refl)
stopped Svc a b n = refl
stopped (Fault f) a b n = refl
stopped (Illegal w) a b n = refl
stopped (Breakpoint i) a b n = refl

-- a step after which PC is at a stop, with n steps left
abbrev pub there : Stepped → ℕ → RanUntil
there s n = record {
  regs = s.regs;
  memory = s.memory;
  stop = record { outcome = None; left = n };
  reached = true;
}

-- a step that does not go on, with n steps left
abbrev pub ended_by : Stepped → ℕ → RanUntil
ended_by s n = record {
  regs = s.regs;
  memory = s.memory;
  stop = record { outcome = Some s.outcome; left = n };
  reached = false;
}

pub until_next :
    (n : ℕ) (stops : List ℕ) (r : Regs) (m : Memory) → 0 < n → (step_of r m).outcome ≡ Next
    → is_among stops (step_of r m).regs.pc ≡ false
    → run_until_of n stops r m ≡ run_until_of (n - 1) stops (step_of r m).regs (step_of r m).memory
unfolding run_until_of
until_next zero stops r m h e b = absurd (omega arith)
until_next (suc n) stops r m h e b =
    let k : suc n - 1 ≡ n = omega arith in
    went_on _ _ _ e ∙ cond-false _ _ _ b
    ∙ ap (λ j. run_until_of j stops (step_of r m).regs (step_of r m).memory) (sym k)

pub until_there :
    (n : ℕ) (stops : List ℕ) (r : Regs) (m : Memory) → 0 < n → (step_of r m).outcome ≡ Next
    → is_among stops (step_of r m).regs.pc ≡ true
    → run_until_of n stops r m ≡ there (step_of r m) (n - 1)
unfolding run_until_of
until_there zero stops r m h e b = absurd (omega arith)
until_there (suc n) stops r m h e b =
    let k : suc n - 1 ≡ n = omega arith in
    went_on _ _ _ e ∙ cond-true _ _ _ b ∙ ap (there (step_of r m)) (sym k)

pub until_stop :
    (n : ℕ) (stops : List ℕ) (r : Regs) (m : Memory) → 0 < n → ((step_of r m).outcome ≡ Next → ⊥)
    → run_until_of n stops r m ≡ ended_by (step_of r m) (n - 1)
unfolding run_until_of
until_stop zero stops r m h e = absurd (omega arith)
until_stop (suc n) stops r m h e =
    let k : suc n - 1 ≡ n = omega arith in
    stopped _ _ _ e ∙ ap (ended_by (step_of r m)) (sym k)

pub until_none : (n : ℕ) (stops : List ℕ) (r : Regs) (m : Memory) → n ≡ 0
    → run_until_of n stops r m
    ≡ record { regs = r; memory = m; stop = record { outcome = None; left = 0 }; reached = false }
unfolding run_until_of
until_none n stops r m e = ap (λ k. run_until_of k stops r m) e
