pub mod Questions
pub mod LeastFixpoint
pub mod Steps
pub mod RowSteps
