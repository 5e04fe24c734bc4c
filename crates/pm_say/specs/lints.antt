-- The definitions, in the order in which to read them.
pub mod Helpers
pub mod Scripts
pub mod Devices
pub mod Commands
pub mod Warnings
-- what the code keeps at hand for them
pub mod Marks
