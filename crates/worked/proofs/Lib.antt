pub mod EveryCase
