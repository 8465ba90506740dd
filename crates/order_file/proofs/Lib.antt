mod Stores
mod Growing
mod Writing
mod Padded
mod Trailing
mod Columns
mod Reading
pub mod RoundTrip
