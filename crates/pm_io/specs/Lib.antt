pub mod Asks
pub mod Faults
pub mod MemFiles
pub mod MemSink
pub mod Real
pub mod Sink
