pub mod DrawLemmas
pub mod PictureLemmas
