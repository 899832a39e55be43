pub mod Limits
pub mod Arguments
pub mod Reading
pub mod ErrorCode
pub mod Reason
pub mod Results
pub mod Laws
