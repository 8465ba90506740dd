pub mod Sheet
pub mod Laid
pub mod Planned
pub mod PlannedLaws
