-- The declared type of events, and those of the layers below that events name.
pub use Rattle.store.specs.declared.LogRecord.{LogRecord}
pub use Rattle.message.specs.declared.Decision.{Decision}
pub use Rattle.event.specs.declared.Event.{Event}
