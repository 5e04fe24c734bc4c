pub mod CommonLen
mod NameSearch
pub mod PlaceNamed
pub mod Arrivals
pub mod SerialLemmas
mod ScriptRows
