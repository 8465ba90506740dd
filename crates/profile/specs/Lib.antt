pub mod Profile
pub mod Reason
pub mod Search
pub mod Least
pub mod Standing
pub mod LeastLaws
pub mod LeastRead
