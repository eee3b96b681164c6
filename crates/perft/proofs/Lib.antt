mod Asked
mod Depths
mod Recounting
mod Through
