pub mod Options
pub mod Given
pub mod Numbers
pub mod Read
pub mod Driver
pub mod Request
