pub mod Bolts
pub mod Bearing
pub mod Sections
pub mod Welds
pub mod Strength
