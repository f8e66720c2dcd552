pub mod Types
pub mod Log
pub mod Entry
