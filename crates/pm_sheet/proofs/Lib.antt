pub mod PenLemmas
