pub mod Plan
pub mod IsLeast
pub mod Check
pub mod Told
pub mod Inside
pub mod EveryLaws
pub mod NumberLaws
pub mod Join
