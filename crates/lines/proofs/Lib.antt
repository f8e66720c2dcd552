pub mod Laws
pub mod LineLaws
