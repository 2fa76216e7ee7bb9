pub mod Adding
pub mod InOrder
pub mod Judging
pub mod Together
pub mod Writing
