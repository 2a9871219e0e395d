pub mod Outputs
pub mod Calls
pub mod Inputs
pub mod Results
pub mod HeapServices
pub mod Services
pub mod Ready
