pub mod Search
pub mod Changes
pub mod Places
