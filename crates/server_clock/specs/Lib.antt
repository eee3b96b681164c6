pub mod Pace
pub mod Slots
pub mod Starting
pub mod Beats
pub mod Serving
