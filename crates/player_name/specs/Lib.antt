pub mod Name
pub mod NameInside
