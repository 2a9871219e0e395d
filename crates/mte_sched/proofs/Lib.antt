pub mod BehaviourLemmas
pub mod IsolationLemmas
pub mod TenantLemmas
mod PlaceLists
mod MemoryLemmas
mod SharingLemmas
mod TurnLemmas
mod AdmitLemmas
mod FrameLemmas
pub mod EachLemmas
mod IndexLemmas
mod FlagLemmas
mod LoanLemmas
