-- The laws of careful runs along the instructions of a tenant.
use Rattle.std.proofs.Common.{ℕ, sym, subst}
use Rattle.mte_laws.proofs.Freed.{IsStale}
use Rattle.mte_laws.specs.CarefulRuns.{State, Live, state_after_call}
use Rattle.mte_laws.specs.SoundHeaps.{Sound}
use Rattle.mte_laws.specs.Discipline.{given_tag}
use Rattle.mte_laws.specs.TenantLaws.{SlicesStaySound, NextDeallocation, KeepsFreeTo, FreedBlocksStayRefused, ReusedTagsStayDifferent}
use Rattle.mte_tenant.specs.Machines.{Machine}
use Rattle.mte_laws.specs.CarefulTenants.{state_of, before_service}
use Rattle.mte_laws.proofs.Tenants.{step-quiet, after-attempt-kept, after-attempt-done, after-slice-sound, steps-sound, steps-stale}
use Rattle.mte_laws.proofs.Disciplines.{freed-of, IsStaleIn, deallocated, out-of-reach, others-in, stale-tag}

pub slices : SlicesStaySound
slices = λ n m l k c. after-slice-sound n m l k c

next-stale : (m k : Machine) (l j : Live) (d : NextDeallocation m l) → Sound (state_of m l) → KeepsFreeTo d k j → IsStaleIn (state_of k j) (freed-of (state_of (before_service m) l) d.freed)
next-stale m k l j d sound run =
    let s = state_of (before_service m) l in
    let n = run.0 in
    let first = step-quiet m l d.careful.tags sound in
    let is = after-attempt-done n m l d.freed.call d.call in
    let f = freed-of s d.freed in
    let st = subst (λ (s : State). IsStale s.world.memory s.world.heap.stacks f) (sym is) (deallocated s d.freed first.sound).stale in
    let after = (after-attempt-kept n m l sound d.careful).sound in
    record { sound = steps-sound run.1 after; stale = steps-stale f run.1 after st }

pub freed-stay : FreedBlocksStayRefused
freed-stay = λ m k l j d sound run. out-of-reach (state_of k j) (freed-of (state_of (before_service m) l) d.freed) (next-stale m k l j d sound run)

pub reused-stay : ReusedTagsStayDifferent
reused-stay = λ m k l j d sound run then.
    let s = state_of (before_service m) l in
    let f = freed-of s d.freed in
    let last = next-stale m k l j d sound run in
    let quiet = step-quiet k j then.tags last.sound in
    let first = step-quiet m l d.careful.tags sound in
    others-in (state_of (before_service k) j) f (given_tag d.freed) (record { sound = quiet.sound; stale = quiet.stale f last.stale last.stale.stacked }) (stale-tag (state_after_call d.freed.call s) f (deallocated s d.freed first.sound).stale)
