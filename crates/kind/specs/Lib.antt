pub mod Types
pub mod Kind
pub mod Step
