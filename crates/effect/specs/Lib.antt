pub mod Types
pub mod Leads
