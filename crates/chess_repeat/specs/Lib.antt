pub mod SamePosition
pub mod Key
pub mod QuietRun
pub mod History
