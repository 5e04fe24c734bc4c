pub mod PlanPlaces
pub mod Telling
pub mod Texts
