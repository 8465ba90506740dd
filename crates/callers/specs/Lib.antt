pub mod Trailers
pub mod TrailerLaws
pub mod Counted
pub mod ReplySame
