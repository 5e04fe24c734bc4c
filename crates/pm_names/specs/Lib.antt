pub mod EnumOrder
pub mod Table
pub mod Words
