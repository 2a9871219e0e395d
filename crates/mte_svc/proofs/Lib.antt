mod CallLemmas
mod FixedServices
mod KeptLemmas
