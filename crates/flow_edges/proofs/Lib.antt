pub mod OfLanes
