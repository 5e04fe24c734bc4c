pub mod Marks
pub mod Words
pub mod Moments
pub mod Tree
pub mod OwnMarks
