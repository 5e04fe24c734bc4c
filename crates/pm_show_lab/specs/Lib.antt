pub mod orders
