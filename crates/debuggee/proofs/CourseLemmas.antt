-- An attempt, the end of a slice and a whole slice, by where a machine stands.
use Rattle.std.proofs.Common.{◌≡◌, ◌⊎◌, ℕ, suc, ◌+◌, ◌-◌, true, false, refl, sym, ap, subst, ◌∙◌, arith, ⊎_elim}
use Rattle.mte_tenant.specs.Machines.{Machine, runs, Attempt, after_attempt, after_attempts, after_slice_end, after_slice}
use Rattle.debuggee.specs.declared.cuts.Cuts.{Cuts}
use Rattle.debuggee.specs.Courses.{next_cut, after_slices, after_attempts_of, IsAt}

less_none : (n : ℕ) → n - 0 ≡ n
less_none n = omega arith

-- What an attempt leaves to do of a slice.
rest_next : (n : ℕ) (m : Machine) (a : Attempt) → runs m ≡ true → a ≡ after_attempt n m → a.goes_on ≡ true
    → after_attempts (suc n) m ≡ after_attempts n a.machine
unfolding after_attempts
rest_next n m a running is on = let h = rw is at on in rw (running, is, h) refl

rest_yielded : (n : ℕ) (m : Machine) (a : Attempt) → runs m ≡ true → a ≡ after_attempt n m → a.goes_on ≡ false
    → after_attempts (suc n) m ≡ a.machine
unfolding after_attempts
rest_yielded n m a running is off = let h = rw is at off in rw (running, is, h) refl

-- At the start.
pub at_start : (c : Cuts) (start m : Machine) (cut : ℕ) → m ≡ start → cut ≡ next_cut c 0 m → IsAt c start 0 cut 0 m
unfolding after_slices after_attempts_of
at_start c start m cut e next = record {
  next = next ∙ ap (next_cut c 0) e;
  machine = e;
  rest = ap (λ k. after_attempts k m) (less_none cut) ∙ ap (after_attempts cut) e;
  within = omega arith;
}

-- After an attempt after which the slice goes on.
pub after_one : (c : Cuts) (start : Machine) (k cut done left : ℕ) (m : Machine) (a : Attempt)
    → IsAt c start k cut done m → runs m ≡ true → cut ≡ suc (done + left) → a ≡ after_attempt left m → a.goes_on ≡ true
    → IsAt c start k cut (done + 1) a.machine
unfolding after_attempts_of
after_one c start k cut done left m a h running e is on =
    let before : cut - done ≡ suc left = omega (arith, e) in
    let behind : cut - suc done ≡ left = omega (arith, e) in
    let more : done + 1 ≡ suc done = omega arith in
    let there = rw before at h.machine in
    let rest = rw before at h.rest in
    rw more (record {
      next = h.next;
      machine = rw behind (ap (λ x. x.machine) is ∙ ap (λ x. (after_attempt left x).machine) there);
      rest = rw behind (sym (rest_next left m a running is on) ∙ rest);
      within = omega (arith, e);
    })

-- After the attempt that ends a slice.
pub after_last : (c : Cuts) (start : Machine) (k cut done left : ℕ) (m n : Machine) (a : Attempt) (next : ℕ)
    → IsAt c start k cut done m → runs m ≡ true → cut ≡ suc (done + left) → a ≡ after_attempt left m
    → (a.goes_on ≡ false) ⊎ ((a.goes_on ≡ true) × (after_attempts left a.machine ≡ a.machine))
    → n ≡ after_slice_end a.machine → next ≡ next_cut c (k + 1) n → IsAt c start (k + 1) next 0 n
unfolding after_slices after_attempts_of after_slice
after_last c start k cut done left m n a next h running e is over e_n e_next =
    let more : k + 1 ≡ suc k = omega arith in
    let before : cut - done ≡ suc left = omega (arith, e) in
    let rest = rw before at h.rest in
    let whole : after_attempts cut (after_slices c k start) ≡ a.machine =
    ⊎_elim (λ off. sym rest ∙ rest_yielded left m a running is off) (λ on. sym rest ∙ rest_next left m a running is on.0 ∙ on.1) over in
    let here : n ≡ after_slices c (suc k) start =
    e_n ∙ ap after_slice_end (sym whole) ∙ ap (λ x. after_slice x (after_slices c k start)) h.next in
    rw more (record {
      next = rw more at e_next ∙ ap (next_cut c (suc k)) here;
      machine = here;
      rest = ap (λ x. after_attempts x n) (less_none next) ∙ ap (after_attempts next) here;
      within = omega arith;
    })

-- After a whole slice.
after_first : (c : Cuts) (start : Machine) (k cut : ℕ) (m n : Machine) (next : ℕ)
    → IsAt c start k cut 0 m → n ≡ after_slice cut m → next ≡ next_cut c (k + 1) n → IsAt c start (k + 1) next 0 n
unfolding after_slices after_attempts_of
after_first c start k cut m n next h e_n e_next =
    let more : k + 1 ≡ suc k = omega arith in
    let there : m ≡ after_slices c k start = h.machine in
    let here : n ≡ after_slices c (suc k) start = e_n ∙ ap (after_slice cut) there ∙ ap (λ x. after_slice x (after_slices c k start)) h.next in
    rw more (record {
      next = rw more at e_next ∙ ap (next_cut c (suc k)) here;
      machine = here;
      rest = ap (λ x. after_attempts x n) (less_none next) ∙ ap (after_attempts next) here;
      within = omega arith;
    })

pub at_slice_end : (c : Cuts) (start : Machine) (k cut done : ℕ) (m n : Machine) (next : ℕ) → IsAt c start k cut done m → done ≡ 0
    → n ≡ after_slice cut m → next ≡ next_cut c (k + 1) n → IsAt c start (k + 1) next done n
at_slice_end c start k cut done m n next h none e_n e_next =
    let first : IsAt c start k cut 0 m = subst (λ d. IsAt c start k cut d m) none h in
    subst (λ d. IsAt c start (k + 1) next d n) (sym none) (after_first c start k cut m n next first e_n e_next)
