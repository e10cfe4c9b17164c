pub mod Refusals
pub mod Tabled
pub mod Tables
pub mod Order
pub mod Drafts
pub mod Laws
