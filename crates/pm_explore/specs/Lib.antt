pub mod search
pub mod schedule
pub mod state
pub mod successors
