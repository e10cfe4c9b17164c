pub mod Agreeing
mod Examples
pub mod Printing
pub mod Reading
pub mod Splitting
pub mod Shapes
pub mod Reports
