-- The heap calls of a tenant: which service makes which, the last of them, the oldest first, and
-- how many there were.
use Rattle.std.specs.Prelude.{◌≡◌, ℕ, ◌+◌, ◌-◌, ◌==◌, min, List, [], ◌∷◌, ◌++◌, drop, length, refl}
use Rattle.std.specs.Prelude.{Option, Some, None, unwrap_or, if◌then◌else◌}
use Rattle.std.specs.Coded.{Coded, code_by, coded×, coded_ℕ, coded_list}
use Rattle.mte_svc.specs.declared.calls.TheConstants.{KEPT_CALLS}
use Rattle.scudo_heap.specs.declared.call.HeapCall.{HeapCall}
use Rattle.scudo_heap.specs.declared.call.HeapCall.TheVariants.{Malloc, Free, Calloc, Realloc}
use Rattle.scudo_heap.specs.declared.call.HeapCall.TheVariants.{Memalign, UsableSize}
use Rattle.scudo_heap.specs.Calls.{arguments_of}
use Rattle.mte_svc.specs.declared.calls.AnsweredCall.{AnsweredCall}
use Rattle.mte_svc.specs.declared.services.TheConstants.{MALLOC, FREE, CALLOC, REALLOC, MEMALIGN}
use Rattle.mte_svc.specs.declared.services.TheConstants.{USABLE_SIZE}
use Rattle.mte_svc.specs.declared.calls.HeapCalls.TheInside.{Inside}

-- ---- by its service

-- The heap call of the service with a number, by its arguments, x0 and x1.
unfoldable pub heap_call_of : ℕ → ℕ → ℕ → Option HeapCall
heap_call_of n first second =
    if n == MALLOC then Some (Malloc first)
    else (if n == FREE then Some (Free first)
    else (if n == CALLOC then Some (Calloc first second)
    else (if n == REALLOC then Some (Realloc first second)
    else (if n == MEMALIGN then Some (Memalign first second)
    else (if n == USABLE_SIZE then Some (UsableSize first)
    else None)))))

-- The number of a heap call's service.
abbrev pub number_of : HeapCall → ℕ
number_of (Malloc size) = MALLOC
number_of (Free pointer) = FREE
number_of (Calloc count size) = CALLOC
number_of (Realloc pointer size) = REALLOC
number_of (Memalign alignment size) = MEMALIGN
number_of (UsableSize pointer) = USABLE_SIZE

-- ---- those of a tenant

-- The last heap calls of a tenant, the oldest first, and how many it made in all.
pub record Calls : Type 0 where
  pub last : List AnsweredCall
  pub count : ℕ

-- The last 64, and a count that stops at 2^64 - 1.
unfoldable pub with_call : Calls → AnsweredCall → Calls
with_call c call = record {
  last = drop (length (c.last ++ call ∷ []) - KEPT_CALLS) (c.last ++ call ∷ []);
  count = min (c.count + 1) 18446744073709551615;
}

-- ---- as numbers

-- The heap call with a number and its arguments; another number is read as a usable_size.
abbrev pub call_of : ℕ → ℕ → ℕ → HeapCall
call_of n first second = unwrap_or (heap_call_of n first second) (UsableSize first)

-- A call is read back from its number and its arguments.
pub call_of-number_of :
    (c : HeapCall) → call_of (number_of c) (arguments_of c).0 (arguments_of c).1 ≡ c
unfolding heap_call_of
call_of-number_of (Malloc size) = refl
call_of-number_of (Free pointer) = refl
call_of-number_of (Calloc count size) = refl
call_of-number_of (Realloc pointer size) = refl
call_of-number_of (Memalign alignment size) = refl
call_of-number_of (UsableSize pointer) = refl

-- The code of a call with its answer, by which proofs distinguish two.
abbrev pub coded_call : Coded AnsweredCall
coded_call =
    code_by (ℕ × (ℕ × (ℕ × ℕ))) (coded× coded_ℕ (coded× coded_ℕ (coded× coded_ℕ coded_ℕ)))
    (λ c. (number_of c.call, ((arguments_of c.call).0, ((arguments_of c.call).1, c.answer))))
    (λ k. record { call = call_of k.0 k.1.0 k.1.1.0; answer = k.1.1.1 })
    (λ c. λ i. record { call = call_of-number_of c.call i; answer = c.answer })

-- The code of the calls of a tenant, by which proofs distinguish two.
abbrev pub coded_calls : Coded Calls
coded_calls =
    code_by (List AnsweredCall × ℕ) (coded× (coded_list coded_call) coded_ℕ)
    (λ c. (c.last, c.count))
    (λ k. record { last = k.0; count = k.1 })
    (λ _. refl)

-- The calls that the code keeps.
abbrev pub calls_of : Inside → Calls
calls_of f = record { last = f.last.items; count = f.count }

-- The list has memory for as many calls as are kept.
abbrev pub IsRoomy : Inside → Type 0
IsRoomy f = f.last.capacity ≡ KEPT_CALLS
