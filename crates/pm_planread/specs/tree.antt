pub mod Keys
pub mod Places
pub mod Tree
pub mod KeyFault
pub mod KindFault
pub mod Sound
pub mod Raw
