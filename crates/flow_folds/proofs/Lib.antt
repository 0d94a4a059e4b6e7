pub mod LengthBlocks
pub mod ReduceBlocks
pub mod ScanAddBlocks
pub mod SegmentBlocks
pub mod SingleBlocks
