-- The types of the layers below that the entry names.
pub use Rattle.number.specs.declared.Refusal.{Refusal}
pub use Rattle.store.specs.declared.LogRecord.{LogRecord}
pub use Rattle.store.specs.declared.LogPair.{LogPair}
pub use Rattle.store.specs.declared.Call.{Call}
pub use Rattle.store.specs.declared.Logged.{Logged}
pub use Rattle.message.specs.declared.Message.{Message}
pub use Rattle.message.specs.Message.{Transition}
pub use Rattle.message.specs.declared.Decision.{Decision}
pub use Rattle.participant.specs.declared.Participant.{Participant}
pub use Rattle.kind.specs.declared.Kind.{Kind}
pub use Rattle.kind.specs.declared.Step.{Step}
pub use Rattle.rules.specs.declared.Release.{Release}
pub use Rattle.event.specs.declared.Event.{Event}
