pub mod Rules
pub mod GoingOn
pub mod Nodes
