pub mod OrdersOutcome
pub mod Orders
pub mod Found
pub mod Seen
pub mod Expect
pub mod Apart
