-- The declared types of the layers below that a summary speaks of.
pub use Rattle.number.specs.declared.Refused.{Refused}
pub use Rattle.figures.specs.declared.Totals.{Totals}
pub use Rattle.figures.specs.declared.Figures.{Figures}
