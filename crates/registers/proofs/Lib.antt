mod Planned
mod ReadAt
