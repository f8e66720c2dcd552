-- The declared types of the layers below that the adding up speaks of.
pub use Rattle.number.specs.declared.Refusal.{Refusal}
pub use Rattle.number.specs.declared.Refused.{Refused}
pub use Rattle.store.specs.declared.Store.{Store}
pub use Rattle.kind.specs.declared.Step.{Step}
pub use Rattle.schedule.specs.declared.Context.{Context}
pub use Rattle.rules.specs.declared.Outcome.{Outcome}
pub use Rattle.rules.specs.declared.Release.{Release}
pub use Rattle.figures.specs.declared.Totals.{Totals}
pub use Rattle.figures.specs.declared.Figures.{Figures}
