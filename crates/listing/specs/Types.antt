-- The declared types of the layers below that a listing speaks of.
pub use Rattle.store.specs.declared.LogRecord.{LogRecord}
pub use Rattle.store.specs.declared.LogPair.{LogPair}
pub use Rattle.kind.specs.declared.Kind.{Kind}
pub use Rattle.kind.specs.declared.Step.{Step}
pub use Rattle.schedule.specs.declared.Header.{Header}
pub use Rattle.schedule.specs.declared.Context.{Context}
pub use Rattle.number.specs.declared.Refusal.{Refusal}
pub use Rattle.number.specs.declared.Refused.{Refused}
pub use Rattle.rules.specs.declared.Release.{Release}
pub use Rattle.rules.specs.declared.Outcome.{Outcome}
pub use Rattle.rules.specs.declared.Report.{Report}
pub use Rattle.store.specs.declared.Store.{Store}
pub use Rattle.start.specs.declared.Start.{Start}
