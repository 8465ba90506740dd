mod StdWords
mod JobByJob
pub mod LateFirst
mod Tells
