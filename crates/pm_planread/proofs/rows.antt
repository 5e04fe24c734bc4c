pub mod FaultLemmas
pub mod PositionLemmas
pub mod NameLemmas
pub mod ApartLemmas
pub mod RowNames
