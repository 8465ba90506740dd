mod Shifts
mod Windows
mod Gathering
mod TimedMade
mod Refusing
mod Ensuring
mod Walks
pub mod ChangeLaws
pub mod CheckLaws
pub mod NoneLaws
pub mod Request
pub mod SamePlan
