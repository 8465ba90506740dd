pub mod Shares
pub mod Writing
pub mod Idle
pub mod Rooms
pub mod Carrying
pub mod Feasible
