pub mod View
pub mod Start
pub mod Run
pub mod RunLaws
