pub mod Coming
pub mod Dead
pub mod Inside
pub mod Like
pub mod Never
pub mod Shaded
pub mod Steps
