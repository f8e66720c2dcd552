pub mod Types
pub mod Event
