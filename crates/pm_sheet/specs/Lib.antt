pub mod columns
pub mod svg
