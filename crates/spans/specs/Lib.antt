pub mod Heap
pub mod Drain
pub mod Line
pub mod LineLaws
pub mod Turn
pub mod TurnLaws
