mod Counting
pub mod CallLaws
