pub mod Numbers
mod Cases
