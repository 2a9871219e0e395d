pub mod TargetValues
