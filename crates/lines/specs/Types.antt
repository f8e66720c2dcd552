-- The declared types of the layers below that a listing's lines speak of.
pub use Rattle.store.specs.declared.LogRecord.{LogRecord}
pub use Rattle.store.specs.declared.LogPair.{LogPair}
pub use Rattle.rules.specs.declared.Outcome.{Outcome}
pub use Rattle.rules.specs.declared.Report.{Report}
