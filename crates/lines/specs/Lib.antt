pub mod Lines
pub mod LineLaws
pub mod Programs
pub mod ProgramLaws
pub mod Inside
