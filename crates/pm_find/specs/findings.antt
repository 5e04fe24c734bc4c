pub mod Codes
pub mod OpenCounts
pub mod Said
pub mod StandsOut
pub mod Ending
pub mod AllFound
pub mod Kept
pub mod WatchTable
