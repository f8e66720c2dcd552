-- The declared types of the coordinator, and those of the layers below that its rules name.
pub use Rattle.store.specs.declared.LogRecord.{LogRecord}
pub use Rattle.store.specs.declared.Call.{Call}
pub use Rattle.message.specs.declared.Message.{Message}
pub use Rattle.coordinator.specs.declared.Coordinator.{Coordinator}
