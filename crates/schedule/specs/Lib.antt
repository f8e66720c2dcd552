pub mod Types
pub mod Record
pub mod Reader
pub mod Found
pub mod Context
pub mod Schedule
pub mod RoundTrip
