pub mod Types
pub mod Writer
pub mod RoundTrip
