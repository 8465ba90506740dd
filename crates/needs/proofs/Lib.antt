mod Ended
pub mod NeedLaws
