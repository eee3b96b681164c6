mod Faults
mod Escaped
