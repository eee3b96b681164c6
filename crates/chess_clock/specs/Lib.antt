pub mod TimeControl
pub mod Events
pub mod SideTimes
pub mod Held
pub mod ClockState
pub mod Replay
