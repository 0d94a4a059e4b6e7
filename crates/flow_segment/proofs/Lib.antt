mod Blocks
mod DistBlocks
mod FlagBlocks
mod Leading
mod PackBlocks
