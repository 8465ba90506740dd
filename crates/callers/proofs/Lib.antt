mod Passing
mod Answers
mod Trailing
mod Between
