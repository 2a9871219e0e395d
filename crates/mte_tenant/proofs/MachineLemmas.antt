-- A run of instructions between two services is as many attempted instructions.
use Rattle.std.proofs.Common.{◌≡◌, ℕ, zero, suc, ◌+◌, ◌-◌, ◌<◌, ◌≤◌, ◌/◌, ◌%◌, min, true, false, Option, List, [], ◌∷◌, if◌then◌else◌}
use Rattle.std.proofs.Common.{Some, None, refl, ap, sym, ◌∙◌, arith}
use Rattle.std.specs.FinMap as finite
use Rattle.std.specs.Ordering.{nat_cmp}
use Rattle.mte_tags.specs.Memory.{Memory, Page, page_at, attrs_cases, attrs_at, pages_left, no_pages, with_new_pages}
use Rattle.mte_tags.specs.Memory.{with_page, new_page, with_byte, with_byte_cases}
use Rattle.mte_tags.specs.Accesses.{with_bytes, with_bytes_at}
use Rattle.mte_tags.specs.declared.attrs.Attrs.{Attrs}
use Rattle.mte_elf.specs.declared.image.Segment.{Segment}
use Rattle.mte_tags.specs.declared.state.TagMode.{TagMode}
use Rattle.mte_elf.specs.Headers.{segments_of}
use Rattle.mte_elf.specs.Loading.{with_segment, with_segments}
use Rattle.a64_registers.specs.declared.registers.Regs.{Regs}
use Rattle.a64_step.specs.declared.outcome.Outcome.{Outcome}
use Rattle.a64_step.specs.declared.outcome.Outcome.TheVariants as outcome
use Rattle.a64_step.specs.Steps.{step_of, run_of, Ran, is_next}
use Rattle.a64_run.specs.Stops.{ending_of, stop_of}
use Rattle.mte_tenant.specs.Machines.{Machine, machine_of, runs, Attempt, continues, after_outcome, with_steps, with_regs}
use Rattle.mte_tenant.specs.Machines.{after_attempt, after_attempts, first_memory}

pub left_goes : (o : Outcome) (n : ℕ) (more stopped : Ran) → more.stop.left ≤ n → stopped.stop.left ≡ n → (if is_next o then more else stopped).stop.left ≤ n
left_goes outcome.Next n more stopped h e = h
left_goes outcome.Svc n more stopped h e = omega arith
left_goes (outcome.Fault f) n more stopped h e = omega arith
left_goes (outcome.Illegal w) n more stopped h e = omega arith
left_goes (outcome.Breakpoint k) n more stopped h e = omega arith

pub left_le : (n : ℕ) (r : Regs) (m : Memory) → (run_of n r m).stop.left ≤ n
unfolding run_of
left_le zero r m = omega arith
left_le (suc n) r m =
    let h = left_goes (step_of r m).outcome n (run_of n (step_of r m).regs (step_of r m).memory) (record { regs = (step_of r m).regs; memory = (step_of r m).memory; stop = record { outcome = Some (step_of r m).outcome; left = n } }) (left_le n (step_of r m).regs (step_of r m).memory) refl in
    omega arith

-- A run of some steps uses one.
pub left_lt : (n : ℕ) (r : Regs) (m : Memory) → 0 < n → (run_of n r m).stop.left < n
unfolding run_of
left_lt zero r m some = absurd (omega arith)
left_lt (suc n) r m some =
    let h = left_goes (step_of r m).outcome n (run_of n (step_of r m).regs (step_of r m).memory) (record { regs = (step_of r m).regs; memory = (step_of r m).memory; stop = record { outcome = Some (step_of r m).outcome; left = n } }) (left_le n (step_of r m).regs (step_of r m).memory) refl in
    omega arith

-- What stopped a run, if anything did, is met.
abbrev pub met_if : Option Outcome → Machine → Attempt
met_if None m = continues m
met_if (Some o) m = after_outcome o m

-- The machine after a run of at most n steps, after which b steps of the slice are left.
abbrev pub after_run : ℕ → ℕ → Ran → Machine → Attempt
after_run b n ran m = met_if ran.stop.outcome (machine_of (with_steps (n - ran.stop.left) (b + ran.stop.left) (with_regs m.parts ran.regs)) ran.memory)

-- More steps, where the slice goes on.
abbrev pub rest_of : ℕ → Attempt → Machine
rest_of n a = if a.goes_on then after_attempts n a.machine else a.machine

abbrev pub RunAdvances : ℕ → ℕ → Machine → Type 0
RunAdvances b n m = rest_of (b + (run_of n m.parts.regs m.memory).stop.left) (after_run b n (run_of n m.parts.regs m.memory) m) ≡ after_attempts (b + n) m

-- Before a run of no steps the steps after it are left.
abbrev pub HasLeft : ℕ → ℕ → Machine → Type 0
HasLeft b n m = n ≡ 0 → m.parts.left ≡ b

attempts_suc : (b n k : ℕ) (m : Machine) → k ≡ suc (b + n) → runs m ≡ true
    → rest_of (b + n) (after_attempt (b + n) m) ≡ after_attempts k m
unfolding after_attempts
attempts_suc b n k m e running = rw (e, running) refl

pub step_advances : (b n : ℕ) (m : Machine) (o : Outcome) → (step_of m.parts.regs m.memory).outcome ≡ o → runs m ≡ true → m.parts.history.steps ≤ 18446744073709551615
    → ((k : Machine) → runs k ≡ true → k.parts.history.steps ≤ 18446744073709551615 → HasLeft b n k → RunAdvances b n k)
    → RunAdvances b (suc n) m
unfolding run_of after_attempt after_outcome
step_advances b n m outcome.Next e running few rest =
    let s = step_of m.parts.regs m.memory in
    let next : Machine = machine_of (with_steps 1 (b + n) (with_regs m.parts s.regs)) s.memory in
    let ran = run_of n s.regs s.memory in
    let below : ran.stop.left ≤ n = left_le n s.regs s.memory in
    let same : min (m.parts.history.steps + (suc n - ran.stop.left)) 18446744073709551615 ≡ min (min (m.parts.history.steps + 1) 18446744073709551615 + (n - ran.stop.left)) 18446744073709551615 = omega arith in
    let rest_of_it = rest next running (omega arith) (λ z. omega (arith, z)) in
    let all = attempts_suc b n (b + suc n) m (omega arith) running in
    rw (e, same) (rest_of_it ∙ rw e at all)
step_advances b n m outcome.Svc e running few rest =
    let one : suc n - n ≡ 1 = omega arith in
    let all = attempts_suc b n (b + suc n) m (omega arith) running in
    rw (e, one) (rw e at all)
step_advances b n m (outcome.Fault f) e running few rest =
    let one : suc n - n ≡ 1 = omega arith in
    let all = attempts_suc b n (b + suc n) m (omega arith) running in
    rw (e, one) (rw e at all)
step_advances b n m (outcome.Illegal w) e running few rest =
    let one : suc n - n ≡ 1 = omega arith in
    let all = attempts_suc b n (b + suc n) m (omega arith) running in
    rw (e, one) (rw e at all)
step_advances b n m (outcome.Breakpoint k) e running few rest =
    let one : suc n - n ≡ 1 = omega arith in
    let all = attempts_suc b n (b + suc n) m (omega arith) running in
    rw (e, one) (rw e at all)

pub run_advances : (b n : ℕ) (m : Machine) → runs m ≡ true → m.parts.history.steps ≤ 18446744073709551615 → HasLeft b n m → RunAdvances b n m
unfolding run_of
run_advances b zero m running few none =
    let same : min (m.parts.history.steps + (0 - 0)) 18446744073709551615 ≡ m.parts.history.steps = omega arith in
    let no_more : b + 0 ≡ b = omega arith in
    let left : b ≡ m.parts.left = sym (none refl) in
    rw no_more
    (ap (λ (k : ℕ). let z : Machine = record m { parts = record m.parts { history = record m.parts.history { steps = k }; left = b } } in after_attempts b z) same
    ∙ ap (λ (k : ℕ). let z : Machine = record m { parts = record m.parts { left = k } } in after_attempts b z) left)
run_advances b (suc n) m running few none =
    step_advances b n m (step_of m.parts.regs m.memory).outcome refl running few (λ k r f l. run_advances b n k r f l)

-- A machine that is not running stays as it is.
pub after-attempts-ended : (n : ℕ) (m : Machine) → runs m ≡ false → after_attempts n m ≡ m
unfolding after_attempts
after-attempts-ended zero m ended = refl
after-attempts-ended (suc n) m ended = rw ended refl

-- What an outcome makes of a machine is what the end of a run by it does.
pub met-ending : (o : Outcome) (m : Machine) → met_if (ending_of o) m ≡ after_outcome o m
unfolding after_outcome
met-ending outcome.Next m = refl
met-ending outcome.Svc m = refl
met-ending (outcome.Fault f) m = refl
met-ending (outcome.Illegal w) m = refl
met-ending (outcome.Breakpoint k) m = refl

-- The same, of what the code has in hand, where b steps of the slice are left after the run.
pub after_part : (b n rest whole : ℕ) (m : Machine) (a : Attempt) (o : Outcome) (left : ℕ) (r : Regs) (mem : Memory) (steps : ℕ)
    → rest ≡ b + left → whole ≡ b + n
    → stop_of o left ≡ (run_of n m.parts.regs m.memory).stop → r ≡ (run_of n m.parts.regs m.memory).regs → mem ≡ (run_of n m.parts.regs m.memory).memory
    → steps ≡ min (m.parts.history.steps + (n - left)) 18446744073709551615
    → a ≡ after_outcome o (machine_of (record m.parts { history = record m.parts.history { steps = steps }; regs = r; left = rest }) mem)
    → runs m ≡ true → m.parts.history.steps ≤ 18446744073709551615 → 0 < n → rest_of rest a ≡ after_attempts whole m
after_part b n rest whole m a o left r mem steps e_rest e_whole e_stop e_regs e_memory e_steps e_new running few some =
    let h = run_advances b n m running few (λ z. absurd (omega (arith, z, some))) in
    let k = rw (← e_stop, ← e_regs, ← e_memory, ← e_steps) at h in
    let l = rw (← e_rest, ← e_whole) at k in
    ap (λ x. rest_of rest x) (e_new ∙ sym (met-ending o _)) ∙ l

-- Nothing is left after a run of the whole slice.
pub after_last : (n : ℕ) (m : Machine) (a : Attempt) (o : Outcome) (left : ℕ) (r : Regs) (mem : Memory) (steps : ℕ)
    → stop_of o left ≡ (run_of n m.parts.regs m.memory).stop → r ≡ (run_of n m.parts.regs m.memory).regs → mem ≡ (run_of n m.parts.regs m.memory).memory
    → steps ≡ min (m.parts.history.steps + (n - left)) 18446744073709551615
    → a ≡ after_outcome o (machine_of (record m.parts { history = record m.parts.history { steps = steps }; regs = r; left = left }) mem)
    → runs m ≡ true → m.parts.history.steps ≤ 18446744073709551615 → 0 < n → rest_of left a ≡ after_attempts n m
after_last n m a o left r mem steps e_stop e_regs e_memory e_steps e_new running few some =
    after_part 0 n left n m a o left r mem steps (omega arith) (omega arith) e_stop e_regs e_memory e_steps e_new running few some

pub attempts_none : (n : ℕ) (m : Machine) → n ≡ 0 → after_attempts n m ≡ m
unfolding after_attempts
attempts_none n m none = rw none refl

pub none-no_pages : (n : ℕ) (mode : TagMode) (q : ℕ) → page_at (no_pages n mode) q ≡ None
unfolding page_at no_pages
none-no_pages n mode q = finite.get-empty nat_cmp q

pub left-no_pages : (n : ℕ) (mode : TagMode) → pages_left (no_pages n mode) ≡ n
unfolding pages_left no_pages
left-no_pages n mode = omega (arith, finite.len-empty nat_cmp Page)

-- The first memory, by the steps that make it.
pub first_memory_by : (image : List ℕ) (pages : ℕ) (mode : TagMode) (empty loaded stacked : Memory) → empty ≡ no_pages pages mode
    → loaded ≡ with_segments image empty (segments_of image) → stacked ≡ with_new_pages loaded 0x3FFFC 4 (record { 0 = 11 }) → stacked ≡ first_memory image pages mode
unfolding first_memory
first_memory_by image pages mode empty loaded stacked e_empty e_loaded e_stacked = rw (e_stacked, e_loaded, e_empty) refl

-- ---- no page of a heap's ranges is mapped at first, and the memory has its reservation

limit-with-byte-cases : (m : Memory) (q o b : ℕ) (p : Option Page) → (with_byte_cases m q o b p).limit ≡ m.limit
unfolding with_page
limit-with-byte-cases m q o b None = refl
limit-with-byte-cases m q o b (Some p) = refl

limit-with_bytes : (xs bs : List ℕ) (m : Memory) → (with_bytes m xs bs).limit ≡ m.limit
unfolding with_bytes with_byte
limit-with_bytes (a ∷ more) (b ∷ bs) m = limit-with_bytes more bs (with_byte m a b) ∙ limit-with-byte-cases m (a / 4096) (a % 4096) b (page_at m (a / 4096))
limit-with_bytes [] bs m = refl
limit-with_bytes (a ∷ more) [] m = refl

limit-with-bytes-at : (m : Memory) (a : ℕ) (bs : List ℕ) → (with_bytes_at m a bs).limit ≡ m.limit
unfolding with_bytes_at
limit-with-bytes-at m a bs = limit-with_bytes _ bs m

pub limit-with_new_pages : (n : ℕ) (m : Memory) (q : ℕ) (x : Attrs) → (with_new_pages m q n x).limit ≡ m.limit
unfolding with_new_pages with_page
limit-with_new_pages zero m q x = refl
limit-with_new_pages (suc n) m q x = limit-with_new_pages n (with_page m q (new_page x.0)) (q + 1) x

pub limit-with_segments : (file : List ℕ) (m : Memory) (ss : List Segment) → (with_segments file m ss).limit ≡ m.limit
unfolding with_segments with_segment
limit-with_segments file m [] = refl
limit-with_segments file m (s ∷ more) =
    limit-with_segments file (with_segment file m s) more ∙ limit-with-bytes-at _ s.vaddr _ ∙ limit-with_new_pages _ m _ _

pub limit-no_pages : (n : ℕ) (mode : TagMode) → (no_pages n mode).limit ≡ n
unfolding no_pages
limit-no_pages n mode = refl

pub attrs-none : (m : Memory) (q : ℕ) → page_at m q ≡ None → attrs_at m q ≡ None
unfolding attrs_at
attrs-none m q e = ap attrs_cases e
