pub mod Told
pub mod Asked
pub mod WeightLaws
pub mod Choices
pub mod Matching
pub mod Telling
pub mod ToldLaws
pub mod SameTold
