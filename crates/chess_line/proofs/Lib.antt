pub mod Cuts
pub mod Cases
pub mod Ascii
pub mod Numbers
