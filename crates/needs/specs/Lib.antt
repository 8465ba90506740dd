pub mod NeedTable
pub mod Told
pub mod Inside
pub mod MeetLaws
pub mod SmallestLaws
pub mod LengthLaws
pub mod OwnLine
pub mod Deciding
