pub mod NodeAlike
