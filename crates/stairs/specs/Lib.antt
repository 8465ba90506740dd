pub mod Places
pub mod Tables
pub mod PlacesLaws
pub mod CompletionLaws
