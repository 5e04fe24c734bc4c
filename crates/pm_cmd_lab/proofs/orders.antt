pub mod SchedulesLemmas
pub mod ApartLemmas
pub mod SeenLemmas
pub mod ExpectLemmas
pub mod Exactly
pub mod Differing
