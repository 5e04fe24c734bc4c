pub mod AxisLemmas
