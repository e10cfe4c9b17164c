pub mod Lent
pub mod Order
pub mod Acts
