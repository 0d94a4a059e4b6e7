pub mod OfCulprits
pub mod OfReach
mod Advised
mod Made
