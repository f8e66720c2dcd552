pub mod Laws
pub mod Writing
pub mod RoundTrip
pub mod Cases
pub mod Texts
