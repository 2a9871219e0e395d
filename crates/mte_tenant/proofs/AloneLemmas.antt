-- One attempted instruction of a slice is a run of one step, and what stopped it.
use Rattle.std.proofs.Common.{◌≡◌, ℕ, zero, suc, ◌+◌, min, true, false, List, [], ◌∷◌, ◌++◌, Some, None, refl, ap, ◌∙◌, append_assoc, append-nil}
use Rattle.std.proofs.Common.{if◌then◌else◌}
use Rattle.mte_tags.specs.Memory.{Memory}
use Rattle.a64_registers.specs.declared.registers.Regs.{Regs}
use Rattle.a64_step.specs.declared.outcome.Outcome.{Outcome}
use Rattle.a64_step.specs.declared.outcome.Outcome.TheVariants as outcome
use Rattle.a64_step.specs.declared.outcome.Stop.{Stop}
use Rattle.a64_step.specs.Steps.{step_of, run_of, Ran}
use Rattle.mte_tenant.specs.Machines.{Machine, machine_of, runs, Attempt, continues, after_outcome, with_steps, with_regs}
use Rattle.mte_tenant.specs.Machines.{after_attempt, after_attempts}
use Rattle.mte_tenant.specs.Watched.{Shown, Before, After, WatchLog, with_shown, shown_of}
use Rattle.mte_tenant.proofs.MachineLemmas.{met_if, rest_of}

-- The machine after a run of one step of a slice, of which n are left.
abbrev pub after_one : ℕ → Ran → Machine → Attempt
after_one n ran m = met_if ran.stop.outcome (machine_of (with_steps 1 n (with_regs m.parts ran.regs)) ran.memory)

by_outcome : (n : ℕ) (m : Machine) (o : Outcome) → (step_of m.parts.regs m.memory).outcome ≡ o
    → after_one n (run_of 1 m.parts.regs m.memory) m ≡ after_attempt n m
unfolding run_of after_attempt after_outcome
by_outcome n m outcome.Next e = rw e refl
by_outcome n m outcome.Svc e = rw e refl
by_outcome n m (outcome.Fault f) e = rw e refl
by_outcome n m (outcome.Illegal w) e = rw e refl
by_outcome n m (outcome.Breakpoint k) e = rw e refl

-- The same, of what the code has in hand.
pub one_some : (n : ℕ) (m : Machine) (a : Attempt) (stop : Stop) (r : Regs) (mem : Memory) (o : Outcome) (steps : ℕ)
    → stop ≡ (run_of 1 m.parts.regs m.memory).stop → r ≡ (run_of 1 m.parts.regs m.memory).regs → mem ≡ (run_of 1 m.parts.regs m.memory).memory
    → stop.outcome ≡ Some o → steps ≡ min (m.parts.history.steps + 1) 18446744073709551615
    → a ≡ after_outcome o (machine_of (record m.parts { history = record m.parts.history { steps = steps }; regs = r; left = n }) mem)
    → a ≡ after_attempt n m
one_some n m a stop r mem o steps e_stop e_regs e_memory e_some e_steps e_new =
    let h = by_outcome n m (step_of m.parts.regs m.memory).outcome refl in
    let k = rw (← e_stop, ← e_regs, ← e_memory, e_some, ← e_steps) at h in
    rw e_new k

pub one_none : (n : ℕ) (m : Machine) (stop : Stop) (r : Regs) (mem : Memory) (steps : ℕ)
    → stop ≡ (run_of 1 m.parts.regs m.memory).stop → r ≡ (run_of 1 m.parts.regs m.memory).regs → mem ≡ (run_of 1 m.parts.regs m.memory).memory
    → stop.outcome ≡ None → steps ≡ min (m.parts.history.steps + 1) 18446744073709551615
    → continues (machine_of (record m.parts { history = record m.parts.history { steps = steps }; regs = r; left = n }) mem) ≡ after_attempt n m
one_none n m stop r mem steps e_stop e_regs e_memory e_none e_steps =
    let h = by_outcome n m (step_of m.parts.regs m.memory).outcome refl in
    rw (← e_stop, ← e_regs, ← e_memory, e_none, ← e_steps) at h

-- ---- the attempts of a slice in turn

attempts_next : (left n : ℕ) (m : Machine) (a : Attempt) → left ≡ suc n → runs m ≡ true → a ≡ after_attempt n m
    → rest_of n a ≡ after_attempts left m
unfolding after_attempts
attempts_next left n m a e running is = rw (e, running, is) refl

-- What is left to be shown after an attempt.
abbrev pub rest_shown : ℕ → Attempt → List Shown
rest_shown n a = if a.goes_on then shown_of n a.machine else []

shown_next : (left n : ℕ) (m : Machine) (a : Attempt) → left ≡ suc n → runs m ≡ true → a ≡ after_attempt n m
    → Before m ∷ After a.machine ∷ rest_shown n a ≡ shown_of left m
unfolding shown_of
shown_next left n m a e running is = rw (e, running, is) refl

with_both : (log : WatchLog) (some more : List Shown) → with_shown (with_shown log some) more ≡ with_shown log (some ++ more)
with_both None some more = refl
with_both (Some all) some more = ap (λ l. Some l) (append_assoc all some more)

-- What was shown before and after an attempt, and what is left to be shown.
log_next : (left n : ℕ) (m : Machine) (a : Attempt) (log first last : WatchLog) → left ≡ suc n → runs m ≡ true → a ≡ after_attempt n m
    → first ≡ with_shown log (Before m ∷ []) → last ≡ with_shown first (After a.machine ∷ [])
    → with_shown last (rest_shown n a) ≡ with_shown log (shown_of left m)
log_next left n m a log first last e running is f g =
    ap (λ l. with_shown l (rest_shown n a)) g
    ∙ with_both first (After a.machine ∷ []) (rest_shown n a)
    ∙ ap (λ l. with_shown l (After a.machine ∷ rest_shown n a)) f
    ∙ with_both log (Before m ∷ []) (After a.machine ∷ rest_shown n a)
    ∙ ap (with_shown log) (shown_next left n m a e running is)

-- After an attempt the slice goes on, or it has yielded.
pub goes_on_next : (left n : ℕ) (m k : Machine) (a : Attempt) (log first last : WatchLog) → left ≡ suc n → runs m ≡ true → a ≡ after_attempt n m
    → first ≡ with_shown log (Before m ∷ []) → last ≡ with_shown first (After a.machine ∷ []) → k ≡ a.machine → a.goes_on ≡ true
    → (after_attempts n k ≡ after_attempts left m) × (with_shown last (shown_of n k) ≡ with_shown log (shown_of left m))
goes_on_next left n m k a log first last e running is f g h continues =
    let all = attempts_next left n m a e running is in
    let shown = log_next left n m a log first last e running is f g in
    (ap (after_attempts n) h ∙ rw continues at all, ap (λ x. with_shown last (shown_of n x)) h ∙ rw continues at shown)

pub yielded_next : (left n : ℕ) (m k : Machine) (a : Attempt) (log first last : WatchLog) → left ≡ suc n → runs m ≡ true → a ≡ after_attempt n m
    → first ≡ with_shown log (Before m ∷ []) → last ≡ with_shown first (After a.machine ∷ []) → k ≡ a.machine → a.goes_on ≡ false
    → (after_attempts 0 k ≡ after_attempts left m) × (with_shown last (shown_of 0 k) ≡ with_shown log (shown_of left m))
unfolding after_attempts shown_of
yielded_next left n m k a log first last e running is f g h off =
    let all = attempts_next left n m a e running is in
    let shown = log_next left n m a log first last e running is f g in
    (h ∙ rw off at all, rw off at shown)

-- Where a slice has ended nothing is left to be shown.
with_none : (log : WatchLog) → with_shown log [] ≡ log
with_none None = refl
with_none (Some all) = ap (λ l. Some l) (append-nil all)

pub log_ended : (n : ℕ) (m : Machine) (log : WatchLog) → runs m ≡ false → with_shown log (shown_of n m) ≡ log
unfolding shown_of
log_ended zero m log ended = with_none log
log_ended (suc n) m log ended = rw ended (with_none log)

pub log_none : (n : ℕ) (m : Machine) (log : WatchLog) → n ≡ 0 → with_shown log (shown_of n m) ≡ log
unfolding shown_of
log_none n m log none = rw none (with_none log)
