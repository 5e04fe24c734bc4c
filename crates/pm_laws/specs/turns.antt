pub mod Blocks
pub mod Idles
pub mod Wakes
pub mod Glance
pub mod Looks
pub mod Told
