pub mod Snapshots
pub mod Schedules
pub mod Observations
