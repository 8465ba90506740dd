pub mod Book
pub mod BookLaws
pub mod Told
pub mod ToldLaws
pub mod Calls
