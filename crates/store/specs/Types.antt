-- The declared types of the store, under one name.
pub use Rattle.store.specs.declared.LogRecord.{LogRecord}
pub use Rattle.store.specs.declared.LogRecord.TheVariants.{None, Yes, Abort, Commit}
pub use Rattle.store.specs.declared.LogPair.{LogPair}
pub use Rattle.store.specs.declared.Store.{Store}
pub use Rattle.store.specs.declared.Call.{Call}
pub use Rattle.store.specs.declared.Logged.{Logged}
pub use Rattle.number.specs.declared.Refusal.{Refusal}
