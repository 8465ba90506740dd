pub mod Estimate
pub mod Told
pub mod Inside
pub mod Steps
pub mod PathLaws
pub mod AcceptLaws
pub mod Request
pub mod StructLaws
