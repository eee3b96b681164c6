pub mod Takers
pub mod LiveTargets
pub mod CodeBits
pub mod KeyBytes
pub mod KeyChanges
pub mod SameKeys
pub mod Counting
pub mod QuietRuns
mod Examples
