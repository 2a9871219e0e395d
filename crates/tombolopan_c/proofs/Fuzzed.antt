-- What is kept of a setup, and what becomes of a run, by cases of the handle.
use Rattle.std.proofs.Common.{◌≡◌, ◌==◌, ◌∙◌, ℕ, List, [], length, refl, ap, sym, subst, Bool, false, Option, None, Some, Result, if◌then◌else◌}
use Rattle.std.specs.Prelude.{is_ok}
use Rattle.mte_tags.specs.declared.fault.MemFault.{MemFault}
use Rattle.mte_tags.specs.Accesses.{read_bytes, read_fault, result_of}
use Rattle.tombolopan_c.specs.Faults.{fault_code}
use Rattle.common.specs.declared.obstacle.Obstacle.TheVariants.{OutOfMemory}
use Rattle.mte_tenant.specs.Ledger.{admission_refusal, charge_of, facts_of, is_bad}
use Rattle.mte_tenant.proofs.Refusals.{each_passed}
use Rattle.tenant_snapshot.specs.declared.tenant.SnapshotTenant.{SnapshotTenant}
use Rattle.mte_tenant.specs.Alone.{refusal_alone}
use Rattle.tombolopan_c.specs.declared.codes.TheConstants.{OK, OUT_OF_MEMORY, NO_REFUSAL}
use Rattle.tombolopan_c.specs.LoneTenants.{lent_start, without_tenant}
use Rattle.tombolopan_c.specs.LentFuzz.{HasSaved, HasRun, HasAnswered, HasRead, now_of, saved_of}
use Rattle.tombolopan_c.specs.declared.alone_end.AloneEnd.{AloneEnd}
use Rattle.tombolopan_c.specs.declared.fuzz_input.LentFuzzInput.{LentFuzzInput}
use Rattle.tombolopan_c.specs.declared.lent_terms.LentTerms.{LentTerms}

-- the reservation of a tenant that is admitted is within its limits
pub is_in_limits : (t : LentTerms) → refusal_alone 0 (lent_start t) ≡ None → is_bad (lent_start t).terms ≡ false
unfolding admission_refusal
is_in_limits t accepted =
    (each_passed (facts_of (charge_of (lent_start t).terms.pages) [] 0) (lent_start t) accepted).good

-- memory is refused to a tenant that is admitted
pub without_memory :
    (t : LentTerms) (held : Option SnapshotTenant) (e : AloneEnd) → held ≡ None → refusal_alone 0 (lent_start t) ≡ None
    → e ≡ without_tenant OUT_OF_MEMORY NO_REFUSAL → HasSaved t held e
without_memory t held e none accepted is =
    subst (λ h. HasSaved t h e) (sym none) (OutOfMemory, tt, (λ _. is_in_limits t accepted), is)

-- the machine of the handle is run, and is in it again
pub has_run :
    (r : LentFuzzInput) (fits : Bool) (held new : Option SnapshotTenant) (e : AloneEnd) (old s : SnapshotTenant)
    → (told : AloneEnd) → held ≡ Some old → new ≡ Some s → e ≡ told → saved_of s ≡ saved_of old
    → HasAnswered r fits old s told → HasRun r fits held new e
has_run r fits held new e old s told holds made is saved answered =
    subst (λ h. HasRun r fits h new e) (sym holds)
    (s, made, saved, subst (HasAnswered r fits old s) (sym is) answered)

-- the bytes that are read, by the answer
by_code :
    (f : Option MemFault) (xs ys : List ℕ)
    → (if is_ok (result_of f) then xs else ys) ≡ (if fault_code f == OK then xs else ys)
by_code None xs ys = refl
by_code (Some f) xs ys = refl

-- the machine of the handle is read, and is in it again
pub has_read :
    (addr : ℕ) (held new : Option SnapshotTenant) (before bytes : List ℕ) (answer : ℕ) (old s : SnapshotTenant)
    → (r : Result (Unit {0}) MemFault) → held ≡ Some old → new ≡ Some s → now_of s ≡ now_of old
    → saved_of s ≡ saved_of old → r ≡ result_of (read_fault old.memory.now addr (length before) false)
    → answer ≡ fault_code (read_fault old.memory.now addr (length before) false)
    → bytes ≡ (if is_ok r then read_bytes old.memory.now addr (length before) else before)
    → HasRead addr held new before bytes answer
has_read addr held new before bytes answer old s r holds made now saved result is read =
    let f = read_fault old.memory.now addr (length before) false in
    let xs = read_bytes old.memory.now addr (length before) in
    subst (λ h. HasRead addr h new before bytes answer) (sym holds) (
      s,
      made,
      now,
      saved,
      is,
      read ∙ ap (λ q. if is_ok q then xs else before) result ∙ by_code f xs before
          ∙ ap (λ n. if n == OK then xs else before) (sym is),
    )
