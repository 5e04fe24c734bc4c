pub mod SuspendMove
