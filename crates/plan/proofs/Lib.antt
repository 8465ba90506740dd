mod Orders
mod RowTests
mod GoodRows
mod Apart
mod Lengths
mod Answers
pub mod CheckLaws
pub mod JoinAgain
pub mod JoinLaws
pub mod JoinRight
pub mod PartsLaws
pub mod RowRanges
pub mod RuleLaws
