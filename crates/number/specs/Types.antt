-- The declared types of a refusal, under one name.
pub use Rattle.number.specs.declared.Refusal.{Refusal}
pub use Rattle.number.specs.declared.Refused.{Refused}
pub use Rattle.number.specs.declared.Numbered.{Numbered}
