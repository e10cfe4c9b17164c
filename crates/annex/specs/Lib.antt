pub mod Meaning
pub mod Facts
pub mod Makes
pub mod Worked
pub mod FactsLemmas
pub mod Lighter
pub mod Forms
pub mod Unloaded
