pub mod FrameBase
pub mod FrameRight
pub mod Joined
pub mod JoinedWhere
pub mod LayoutJoined
pub mod LayoutOrdered
pub mod LayoutRight
