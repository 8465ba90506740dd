mod Ranges
mod Judging
mod Placing
pub mod CallerLaws
pub mod ClassLaws
pub mod EndLaws
pub mod FindingLaws
pub mod LeadLaws
pub mod RefusalLaws
pub mod StructLaws
pub mod TableLaws
