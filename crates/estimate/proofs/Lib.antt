mod Judging
mod Filling
mod Ordered
mod Answers
