-- The declared types of the layers below that the passes speak of.
pub use Rattle.kind.specs.declared.Step.{Step}
pub use Rattle.schedule.specs.declared.Header.{Header}
pub use Rattle.schedule.specs.declared.Context.{Context}
pub use Rattle.schedule.specs.declared.Record.{Record}
pub use Rattle.number.specs.declared.Refusal.{Refusal}
pub use Rattle.number.specs.declared.Refused.{Refused}
pub use Rattle.store.specs.declared.Store.{Store}
pub use Rattle.rules.specs.declared.Release.{Release}
pub use Rattle.rules.specs.declared.Outcome.{Outcome}
