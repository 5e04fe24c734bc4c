pub mod located
