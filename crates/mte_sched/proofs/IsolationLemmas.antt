-- What holds of each behaviour, of the machine.
use Rattle.std.proofs.Common.{◌≡◌, ℕ, List, map, Option, Some}
use Rattle.mte_sched.specs.Lives.{Life, life_among}
use Rattle.mte_sched.specs.Contents.{machine, after_admit, after_slice_of, after_stop_of, after_call, after_calls, after_own_events, tenant_of}
use Rattle.mte_sched.specs.Isolation.{LedgerFollows, TenantsAreAlone, TenantsAreIsolated, tenant_among}
use Rattle.mte_sched.proofs.BehaviourLemmas as behaviours
pub use Rattle.mte_sched.proofs.BehaviourLemmas.{accepted_from, accepted_on}

pub ledger_follows : LedgerFollows
unfolding after_call
ledger_follows c e = behaviours.ledger_follows machine c e

pub tenants_are_alone : TenantsAreAlone
unfolding after_calls after_own_events
tenants_are_alone s = behaviours.tenants_are_alone machine s

pub tenants_are_isolated : TenantsAreIsolated
tenants_are_isolated id s t h = behaviours.tenants_are_isolated machine id s t h

pub among_tenants : (id : ℕ) (ls : List Life) (life : Life) → life_among id ls ≡ Some life → tenant_among id (map tenant_of ls) ≡ Some (tenant_of life)
unfolding after_own_events
among_tenants id ls life h = behaviours.among_tenants machine id ls life h
