-- The types of the layers below that an effect names.
pub use Rattle.message.specs.declared.Message.{Message}
pub use Rattle.message.specs.declared.Decision.{Decision}
pub use Rattle.participant.specs.declared.Participant.{Participant}
pub use Rattle.coordinator.specs.declared.Coordinator.{Coordinator}
pub use Rattle.rules.specs.declared.Outcome.{Outcome}
pub use Rattle.rules.specs.declared.Release.{Release}
pub use Rattle.rules.specs.declared.Report.{Report}
